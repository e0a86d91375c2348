use Rattle.std.proofs.Common.{◌∙◌}
use Rattle.pc_deriv.proofs.RuleLetters.{any_letter, letter_a, letter_b, letter_c, letter_d, letter_e, letter_g, letter_i, letter_j, letter_l, letter_n, letter_p, letter_r, letter_s, letter_t, letter_w}
use Rattle.pc_deriv.proofs.vocabulary.rule_at.Goals as goal

pub returns-then-is_empty : goal.returns-then-is_empty
returns-then-is_empty c = c.first_named.ensures ∙ any_letter c.args.text.now

pub returns-in-97 : goal.returns-in-97
returns-in-97 c = c.first_named-in-97.ensures ∙ letter_a c.args.text.now c.in-97.is

pub returns-in-98 : goal.returns-in-98
returns-in-98 c = c.first_named-in-98.ensures ∙ letter_b c.args.text.now c.in-98.is

pub returns-in-99 : goal.returns-in-99
returns-in-99 c = c.first_named-in-99.ensures ∙ letter_c c.args.text.now c.in-99.is

pub returns-in-100 : goal.returns-in-100
returns-in-100 c = c.first_named-in-100.ensures ∙ letter_d c.args.text.now c.in-100.is

pub returns-in-101 : goal.returns-in-101
returns-in-101 c = c.first_named-in-101.ensures ∙ letter_e c.args.text.now c.in-101.is

pub returns-in-103 : goal.returns-in-103
returns-in-103 c = c.first_named-in-103.ensures ∙ letter_g c.args.text.now c.in-103.is

pub returns-in-105 : goal.returns-in-105
returns-in-105 c = c.first_named-in-105.ensures ∙ letter_i c.args.text.now c.in-105.is

pub returns-in-106 : goal.returns-in-106
returns-in-106 c = c.first_named-in-106.ensures ∙ letter_j c.args.text.now c.in-106.is

pub returns-in-108 : goal.returns-in-108
returns-in-108 c = c.first_named-in-108.ensures ∙ letter_l c.args.text.now c.in-108.is

pub returns-in-110 : goal.returns-in-110
returns-in-110 c = c.first_named-in-110.ensures ∙ letter_n c.args.text.now c.in-110.is

pub returns-in-112 : goal.returns-in-112
returns-in-112 c = c.first_named-in-112.ensures ∙ letter_p c.args.text.now c.in-112.is

pub returns-in-114 : goal.returns-in-114
returns-in-114 c = c.first_named-in-114.ensures ∙ letter_r c.args.text.now c.in-114.is

pub returns-in-115 : goal.returns-in-115
returns-in-115 c = c.first_named-in-115.ensures ∙ letter_s c.args.text.now c.in-115.is

pub returns-in-116 : goal.returns-in-116
returns-in-116 c = c.first_named-in-116.ensures ∙ letter_t c.args.text.now c.in-116.is

pub returns-in-119 : goal.returns-in-119
returns-in-119 c = c.first_named-in-119.ensures ∙ letter_w c.args.text.now c.in-119.is

pub returns-in_default : goal.returns-in_default
returns-in_default c = c.first_named-in_default.ensures ∙ any_letter c.args.text.now
