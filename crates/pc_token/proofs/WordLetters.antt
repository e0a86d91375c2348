-- A word is looked for among those that begin with the first byte of the text.
use Rattle.std.proofs.Common.{◌≡◌, ℕ, ◌<◌, List, [], ◌∷◌, refl, sym, subst, arith, slice_index_or}
use Rattle.pc_token.specs.{declared.words.Word.Word, declared.words.TheConstants.{WORDS, A_WORDS, B_WORDS, C_WORDS, D_WORDS, E_WORDS, F_WORDS, I_WORDS, L_WORDS, M_WORDS, N_WORDS, O_WORDS, P_WORDS, R_WORDS, S_WORDS, T_WORDS, U_WORDS, V_WORDS, W_WORDS, X_WORDS}, Finding.{first_word, word_of}}

by_letter : (letter : ℕ) (words : List Word) → 0 < letter → ((bs : List ℕ) → first_word words (letter ∷ bs) ≡ word_of (letter ∷ bs)) → (text : List ℕ) → slice_index_or text 0 0 ≡ letter → first_word words text ≡ word_of text
by_letter letter words some same [] e = let none : 0 ≡ letter = e in absurd (omega (arith, some, none))
by_letter letter words some same (b ∷ bs) e = let first : b ≡ letter = e in subst (λ x. first_word words (x ∷ bs) ≡ word_of (x ∷ bs)) (sym first) (same bs)

pub any_letter : (text : List ℕ) → first_word WORDS text ≡ word_of text
unfolding word_of
any_letter text = refl

pub letter_a : (text : List ℕ) → slice_index_or text 0 0 ≡ 97 → first_word A_WORDS text ≡ word_of text
unfolding word_of
letter_a text e = by_letter 97 A_WORDS (omega arith) (λ bs. refl) text e

pub letter_b : (text : List ℕ) → slice_index_or text 0 0 ≡ 98 → first_word B_WORDS text ≡ word_of text
unfolding word_of
letter_b text e = by_letter 98 B_WORDS (omega arith) (λ bs. refl) text e

pub letter_c : (text : List ℕ) → slice_index_or text 0 0 ≡ 99 → first_word C_WORDS text ≡ word_of text
unfolding word_of
letter_c text e = by_letter 99 C_WORDS (omega arith) (λ bs. refl) text e

pub letter_d : (text : List ℕ) → slice_index_or text 0 0 ≡ 100 → first_word D_WORDS text ≡ word_of text
unfolding word_of
letter_d text e = by_letter 100 D_WORDS (omega arith) (λ bs. refl) text e

pub letter_e : (text : List ℕ) → slice_index_or text 0 0 ≡ 101 → first_word E_WORDS text ≡ word_of text
unfolding word_of
letter_e text e = by_letter 101 E_WORDS (omega arith) (λ bs. refl) text e

pub letter_f : (text : List ℕ) → slice_index_or text 0 0 ≡ 102 → first_word F_WORDS text ≡ word_of text
unfolding word_of
letter_f text e = by_letter 102 F_WORDS (omega arith) (λ bs. refl) text e

pub letter_g : (text : List ℕ) → slice_index_or text 0 0 ≡ 103 → first_word [] text ≡ word_of text
unfolding word_of
letter_g text e = by_letter 103 [] (omega arith) (λ bs. refl) text e

pub letter_h : (text : List ℕ) → slice_index_or text 0 0 ≡ 104 → first_word [] text ≡ word_of text
unfolding word_of
letter_h text e = by_letter 104 [] (omega arith) (λ bs. refl) text e

pub letter_i : (text : List ℕ) → slice_index_or text 0 0 ≡ 105 → first_word I_WORDS text ≡ word_of text
unfolding word_of
letter_i text e = by_letter 105 I_WORDS (omega arith) (λ bs. refl) text e

pub letter_j : (text : List ℕ) → slice_index_or text 0 0 ≡ 106 → first_word [] text ≡ word_of text
unfolding word_of
letter_j text e = by_letter 106 [] (omega arith) (λ bs. refl) text e

pub letter_k : (text : List ℕ) → slice_index_or text 0 0 ≡ 107 → first_word [] text ≡ word_of text
unfolding word_of
letter_k text e = by_letter 107 [] (omega arith) (λ bs. refl) text e

pub letter_l : (text : List ℕ) → slice_index_or text 0 0 ≡ 108 → first_word L_WORDS text ≡ word_of text
unfolding word_of
letter_l text e = by_letter 108 L_WORDS (omega arith) (λ bs. refl) text e

pub letter_m : (text : List ℕ) → slice_index_or text 0 0 ≡ 109 → first_word M_WORDS text ≡ word_of text
unfolding word_of
letter_m text e = by_letter 109 M_WORDS (omega arith) (λ bs. refl) text e

pub letter_n : (text : List ℕ) → slice_index_or text 0 0 ≡ 110 → first_word N_WORDS text ≡ word_of text
unfolding word_of
letter_n text e = by_letter 110 N_WORDS (omega arith) (λ bs. refl) text e

pub letter_o : (text : List ℕ) → slice_index_or text 0 0 ≡ 111 → first_word O_WORDS text ≡ word_of text
unfolding word_of
letter_o text e = by_letter 111 O_WORDS (omega arith) (λ bs. refl) text e

pub letter_p : (text : List ℕ) → slice_index_or text 0 0 ≡ 112 → first_word P_WORDS text ≡ word_of text
unfolding word_of
letter_p text e = by_letter 112 P_WORDS (omega arith) (λ bs. refl) text e

pub letter_q : (text : List ℕ) → slice_index_or text 0 0 ≡ 113 → first_word [] text ≡ word_of text
unfolding word_of
letter_q text e = by_letter 113 [] (omega arith) (λ bs. refl) text e

pub letter_r : (text : List ℕ) → slice_index_or text 0 0 ≡ 114 → first_word R_WORDS text ≡ word_of text
unfolding word_of
letter_r text e = by_letter 114 R_WORDS (omega arith) (λ bs. refl) text e

pub letter_s : (text : List ℕ) → slice_index_or text 0 0 ≡ 115 → first_word S_WORDS text ≡ word_of text
unfolding word_of
letter_s text e = by_letter 115 S_WORDS (omega arith) (λ bs. refl) text e

pub letter_t : (text : List ℕ) → slice_index_or text 0 0 ≡ 116 → first_word T_WORDS text ≡ word_of text
unfolding word_of
letter_t text e = by_letter 116 T_WORDS (omega arith) (λ bs. refl) text e

pub letter_u : (text : List ℕ) → slice_index_or text 0 0 ≡ 117 → first_word U_WORDS text ≡ word_of text
unfolding word_of
letter_u text e = by_letter 117 U_WORDS (omega arith) (λ bs. refl) text e

pub letter_v : (text : List ℕ) → slice_index_or text 0 0 ≡ 118 → first_word V_WORDS text ≡ word_of text
unfolding word_of
letter_v text e = by_letter 118 V_WORDS (omega arith) (λ bs. refl) text e

pub letter_w : (text : List ℕ) → slice_index_or text 0 0 ≡ 119 → first_word W_WORDS text ≡ word_of text
unfolding word_of
letter_w text e = by_letter 119 W_WORDS (omega arith) (λ bs. refl) text e

pub letter_x : (text : List ℕ) → slice_index_or text 0 0 ≡ 120 → first_word X_WORDS text ≡ word_of text
unfolding word_of
letter_x text e = by_letter 120 X_WORDS (omega arith) (λ bs. refl) text e

pub letter_y : (text : List ℕ) → slice_index_or text 0 0 ≡ 121 → first_word [] text ≡ word_of text
unfolding word_of
letter_y text e = by_letter 121 [] (omega arith) (λ bs. refl) text e

pub letter_z : (text : List ℕ) → slice_index_or text 0 0 ≡ 122 → first_word [] text ≡ word_of text
unfolding word_of
letter_z text e = by_letter 122 [] (omega arith) (λ bs. refl) text e

pub under : (text : List ℕ) → slice_index_or text 0 0 ≡ 95 → first_word [] text ≡ word_of text
unfolding word_of
under text e = by_letter 95 [] (omega arith) (λ bs. refl) text e
