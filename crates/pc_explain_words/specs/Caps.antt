-- Capabilities and forms in words.
use Rattle.std.specs.{Prelude.{ℕ, zero, suc, List, [], ◌∷◌, ◌++◌, length, codes}, List.filter}
use Rattle.pc_caps.specs.{Computed.fits, declared.capability.Cap.Cap, declared.capability.Form.Form, Words.{cap_name, form_name}}
use Rattle.pc_base.specs.Lists.{Text}
use Rattle.pc_caps.specs.declared.capability.Cap.TheVariants as cap
use Rattle.pc_caps.specs.declared.capability.Form.TheVariants as form

-- The capability of a constructor's new object, by the form of its result.
abbrev pub new_word : Form → Text
new_word form.IsoE = codes "iso"
new_word form.TrnE = codes "trn"
new_word form.Iso = codes "iso"
new_word form.Trn = codes "trn"
new_word form.Ref = codes "ref"
new_word form.Val = codes "val"
new_word form.Box = codes "box"
new_word form.Tag = codes "tag"

-- ---- those that fit

-- The forms and the capabilities, in the order in which texts list them.
abbrev pub forms : List Form
forms = form.IsoE ∷ form.TrnE ∷ form.Iso ∷ form.Trn ∷ form.Ref ∷ form.Val ∷ form.Box ∷ form.Tag ∷ []

abbrev pub caps : List Cap
caps = cap.Iso ∷ cap.Trn ∷ cap.Ref ∷ cap.Val ∷ cap.Box ∷ cap.Tag ∷ []

-- The forms that fit a capability.
abbrev pub fitting : Cap → List Form
fitting k = filter (λ f. fits f k) forms

-- The capabilities that take a form.
abbrev pub taking : Form → List Cap
taking f = filter (λ k. fits f k) caps

-- ---- a list: `A`, `A or B`, `A, B or C`

-- What follows one of them, given how many are left.
abbrev pub after_one : (left : ℕ) → Text
after_one zero = []
after_one (suc zero) = codes " or "
after_one (suc (suc n)) = codes ", "

abbrev pub form_words : List Form → Text
form_words [] = []
form_words (f ∷ fs) = form_name f ++ (after_one (length fs) ++ form_words fs)

abbrev pub cap_words : List Cap → Text
cap_words [] = []
cap_words (k ∷ ks) = cap_name k ++ (after_one (length ks) ++ cap_words ks)

abbrev pub takes_word : Cap → Text
takes_word cap.Iso = codes "takes only "
takes_word cap.Trn = codes "takes "
takes_word cap.Ref = codes "takes "
takes_word cap.Val = codes "takes "
takes_word cap.Box = codes "takes "
takes_word cap.Tag = codes "takes "

-- The forms that a place with this capability takes.
unfoldable pub takes_words : Cap → Text
takes_words k = takes_word k ++ form_words (fitting k)
