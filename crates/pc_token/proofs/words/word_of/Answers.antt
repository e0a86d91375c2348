use Rattle.std.proofs.Common.{◌∙◌}
use Rattle.pc_token.proofs.WordLetters.{any_letter, letter_a, letter_b, letter_c, letter_d, letter_e, letter_f, letter_g, letter_h, letter_i, letter_j, letter_k, letter_l, letter_m, letter_n, letter_o, letter_p, letter_q, letter_r, letter_s, letter_t, letter_u, letter_v, letter_w, letter_x, letter_y, letter_z, under}
use Rattle.pc_token.proofs.words.word_of.Goals as goal

pub returns-then-is_empty : goal.returns-then-is_empty
returns-then-is_empty c = c.find_word.ensures ∙ any_letter c.args.text.now

pub returns-in-95 : goal.returns-in-95
returns-in-95 c = under c.args.text.now c.in-95.is

pub returns-in-97 : goal.returns-in-97
returns-in-97 c = c.find_word-in-97.ensures ∙ letter_a c.args.text.now c.in-97.is

pub returns-in-98 : goal.returns-in-98
returns-in-98 c = c.find_word-in-98.ensures ∙ letter_b c.args.text.now c.in-98.is

pub returns-in-99 : goal.returns-in-99
returns-in-99 c = c.find_word-in-99.ensures ∙ letter_c c.args.text.now c.in-99.is

pub returns-in-100 : goal.returns-in-100
returns-in-100 c = c.find_word-in-100.ensures ∙ letter_d c.args.text.now c.in-100.is

pub returns-in-101 : goal.returns-in-101
returns-in-101 c = c.find_word-in-101.ensures ∙ letter_e c.args.text.now c.in-101.is

pub returns-in-102 : goal.returns-in-102
returns-in-102 c = c.find_word-in-102.ensures ∙ letter_f c.args.text.now c.in-102.is

pub returns-in-103 : goal.returns-in-103
returns-in-103 c = letter_g c.args.text.now c.in-103.is

pub returns-in-104 : goal.returns-in-104
returns-in-104 c = letter_h c.args.text.now c.in-104.is

pub returns-in-105 : goal.returns-in-105
returns-in-105 c = c.find_word-in-105.ensures ∙ letter_i c.args.text.now c.in-105.is

pub returns-in-106 : goal.returns-in-106
returns-in-106 c = letter_j c.args.text.now c.in-106.is

pub returns-in-107 : goal.returns-in-107
returns-in-107 c = letter_k c.args.text.now c.in-107.is

pub returns-in-108 : goal.returns-in-108
returns-in-108 c = c.find_word-in-108.ensures ∙ letter_l c.args.text.now c.in-108.is

pub returns-in-109 : goal.returns-in-109
returns-in-109 c = c.find_word-in-109.ensures ∙ letter_m c.args.text.now c.in-109.is

pub returns-in-110 : goal.returns-in-110
returns-in-110 c = c.find_word-in-110.ensures ∙ letter_n c.args.text.now c.in-110.is

pub returns-in-111 : goal.returns-in-111
returns-in-111 c = c.find_word-in-111.ensures ∙ letter_o c.args.text.now c.in-111.is

pub returns-in-112 : goal.returns-in-112
returns-in-112 c = c.find_word-in-112.ensures ∙ letter_p c.args.text.now c.in-112.is

pub returns-in-113 : goal.returns-in-113
returns-in-113 c = letter_q c.args.text.now c.in-113.is

pub returns-in-114 : goal.returns-in-114
returns-in-114 c = c.find_word-in-114.ensures ∙ letter_r c.args.text.now c.in-114.is

pub returns-in-115 : goal.returns-in-115
returns-in-115 c = c.find_word-in-115.ensures ∙ letter_s c.args.text.now c.in-115.is

pub returns-in-116 : goal.returns-in-116
returns-in-116 c = c.find_word-in-116.ensures ∙ letter_t c.args.text.now c.in-116.is

pub returns-in-117 : goal.returns-in-117
returns-in-117 c = c.find_word-in-117.ensures ∙ letter_u c.args.text.now c.in-117.is

pub returns-in-118 : goal.returns-in-118
returns-in-118 c = c.find_word-in-118.ensures ∙ letter_v c.args.text.now c.in-118.is

pub returns-in-119 : goal.returns-in-119
returns-in-119 c = c.find_word-in-119.ensures ∙ letter_w c.args.text.now c.in-119.is

pub returns-in-120 : goal.returns-in-120
returns-in-120 c = c.find_word-in-120.ensures ∙ letter_x c.args.text.now c.in-120.is

pub returns-in-121 : goal.returns-in-121
returns-in-121 c = letter_y c.args.text.now c.in-121.is

pub returns-in-122 : goal.returns-in-122
returns-in-122 c = letter_z c.args.text.now c.in-122.is

pub returns-in_default : goal.returns-in_default
returns-in_default c = c.find_word-in_default.ensures ∙ any_letter c.args.text.now
