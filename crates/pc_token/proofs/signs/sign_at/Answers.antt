use Rattle.std.proofs.Common.{◌∙◌}
use Rattle.pc_token.proofs.SignLetters.{any_byte, from_equals, from_exclamation, from_less, from_greater, from_open_paren, from_close_paren, from_comma, from_dot, from_colon, from_semicolon, from_caret, from_ampersand, from_plus, from_minus, from_star, from_slash, from_percent}
use Rattle.pc_token.proofs.signs.sign_at.Goals as goal

pub returns-then-is_empty-clause-value : goal.returns-then-is_empty-clause-value
returns-then-is_empty-clause-value c = c.find_sign.ensures.value ∙ any_byte c.args.text.now

pub returns-in-61-clause-value : goal.returns-in-61-clause-value
returns-in-61-clause-value c = c.find_sign-in-61.ensures.value ∙ from_equals c.args.text.now c.in-61.is

pub returns-in-33-clause-value : goal.returns-in-33-clause-value
returns-in-33-clause-value c = c.find_sign-in-33.ensures.value ∙ from_exclamation c.args.text.now c.in-33.is

pub returns-in-60-clause-value : goal.returns-in-60-clause-value
returns-in-60-clause-value c = c.find_sign-in-60.ensures.value ∙ from_less c.args.text.now c.in-60.is

pub returns-in-62-clause-value : goal.returns-in-62-clause-value
returns-in-62-clause-value c = c.find_sign-in-62.ensures.value ∙ from_greater c.args.text.now c.in-62.is

pub returns-in-40-clause-value : goal.returns-in-40-clause-value
returns-in-40-clause-value c = c.find_sign-in-40.ensures.value ∙ from_open_paren c.args.text.now c.in-40.is

pub returns-in-41-clause-value : goal.returns-in-41-clause-value
returns-in-41-clause-value c = c.find_sign-in-41.ensures.value ∙ from_close_paren c.args.text.now c.in-41.is

pub returns-in-44-clause-value : goal.returns-in-44-clause-value
returns-in-44-clause-value c = c.find_sign-in-44.ensures.value ∙ from_comma c.args.text.now c.in-44.is

pub returns-in-46-clause-value : goal.returns-in-46-clause-value
returns-in-46-clause-value c = c.find_sign-in-46.ensures.value ∙ from_dot c.args.text.now c.in-46.is

pub returns-in-58-clause-value : goal.returns-in-58-clause-value
returns-in-58-clause-value c = c.find_sign-in-58.ensures.value ∙ from_colon c.args.text.now c.in-58.is

pub returns-in-59-clause-value : goal.returns-in-59-clause-value
returns-in-59-clause-value c = c.find_sign-in-59.ensures.value ∙ from_semicolon c.args.text.now c.in-59.is

pub returns-in-94-clause-value : goal.returns-in-94-clause-value
returns-in-94-clause-value c = c.find_sign-in-94.ensures.value ∙ from_caret c.args.text.now c.in-94.is

pub returns-in-38-clause-value : goal.returns-in-38-clause-value
returns-in-38-clause-value c = c.find_sign-in-38.ensures.value ∙ from_ampersand c.args.text.now c.in-38.is

pub returns-in-43-clause-value : goal.returns-in-43-clause-value
returns-in-43-clause-value c = c.find_sign-in-43.ensures.value ∙ from_plus c.args.text.now c.in-43.is

pub returns-in-45-clause-value : goal.returns-in-45-clause-value
returns-in-45-clause-value c = c.find_sign-in-45.ensures.value ∙ from_minus c.args.text.now c.in-45.is

pub returns-in-42-clause-value : goal.returns-in-42-clause-value
returns-in-42-clause-value c = c.find_sign-in-42.ensures.value ∙ from_star c.args.text.now c.in-42.is

pub returns-in-47-clause-value : goal.returns-in-47-clause-value
returns-in-47-clause-value c = c.find_sign-in-47.ensures.value ∙ from_slash c.args.text.now c.in-47.is

pub returns-in-37-clause-value : goal.returns-in-37-clause-value
returns-in-37-clause-value c = c.find_sign-in-37.ensures.value ∙ from_percent c.args.text.now c.in-37.is

pub returns-in_default-clause-value : goal.returns-in_default-clause-value
returns-in_default-clause-value c = c.find_sign-in_default.ensures.value ∙ any_byte c.args.text.now
