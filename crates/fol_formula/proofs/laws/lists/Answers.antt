use Rattle.fol_formula.proofs.Rows.{form_lists, term_lists, form_turns, term_turns, rows_are_lists}
use Rattle.fol_formula.proofs.laws.lists.Goals as goal

pub returns-clause-forms : goal.returns-clause-forms
returns-clause-forms c = form_lists

pub returns-clause-terms : goal.returns-clause-terms
returns-clause-terms c = term_lists

pub returns-clause-form_turns : goal.returns-clause-form_turns
returns-clause-form_turns c = form_turns

pub returns-clause-term_turns : goal.returns-clause-term_turns
returns-clause-term_turns c = term_turns

pub returns-clause-rows : goal.returns-clause-rows
returns-clause-rows c = rows_are_lists
