use Rattle.rml_syntax.specs.Tree.{file_tree}
use Rattle.rml_syntax.proofs.Texts.{reads_tree, stop_fault, one_tree, one_fault, not_both, stands, within_text}
use Rattle.rml_syntax.proofs.Texts.{shaped_text}
use Rattle.rml_syntax.proofs.parser.parse.Goals as goal

pub returns-in-Ok-clause-tree : goal.returns-in-Ok-clause-tree
returns-in-Ok-clause-tree c =
    reads_tree c.terms_are_read.ensures c.args.text.now c.args.tokens.now
    (file_tree c.in-Ok.tree) c.in-Ok.ensures

pub returns-in-Ok-clause-within : goal.returns-in-Ok-clause-within
returns-in-Ok-clause-within c =
    within_text c.terms_stand.ensures c.args.text.now c.args.tokens.now (file_tree c.in-Ok.tree)
    (reads_tree c.terms_are_read.ensures _ _ (file_tree c.in-Ok.tree) c.in-Ok.ensures) c.requires

pub returns-in-Ok-clause-shape : goal.returns-in-Ok-clause-shape
returns-in-Ok-clause-shape c =
    shaped_text c.terms_nest.ensures.terms c.terms_nest.ensures.deeper c.terms_nest.ensures.deeper_all
    c.args.text.now c.args.tokens.now (file_tree c.in-Ok.tree)
    (reads_tree c.terms_are_read.ensures _ _ (file_tree c.in-Ok.tree) c.in-Ok.ensures)

pub returns-in-Ok-clause-found : goal.returns-in-Ok-clause-found
returns-in-Ok-clause-found c =
    λ tree is. one_tree c.terms_are_read.ensures c.args.text.now c.args.tokens.now _ tree
    (reads_tree c.terms_are_read.ensures _ _ (file_tree c.in-Ok.tree) c.in-Ok.ensures) is

pub returns-in-Ok-clause-refused : goal.returns-in-Ok-clause-refused
returns-in-Ok-clause-refused c =
    λ fault is. not_both c.terms_are_read.ensures c.args.text.now c.args.tokens.now _ fault
    (reads_tree c.terms_are_read.ensures _ _ (file_tree c.in-Ok.tree) c.in-Ok.ensures) is

pub returns-in-Err-For-clause-fault : goal.returns-in-Err-For-clause-fault
returns-in-Err-For-clause-fault c =
    rw c.fault_of.ensures (stop_fault c.terms_are_read.ensures c.args.text.now c.args.tokens.now c.in-Err-For.stop
    (rw c.in-Err-For.field-0-is at c.in-Err-For.ensures))

pub returns-in-Err-For-clause-found : goal.returns-in-Err-For-clause-found
returns-in-Err-For-clause-found c =
    λ tree is. not_both c.terms_are_read.ensures c.args.text.now c.args.tokens.now tree _ is
    (stop_fault c.terms_are_read.ensures _ _ c.in-Err-For.stop (rw c.in-Err-For.field-0-is at c.in-Err-For.ensures))

pub returns-in-Err-For-clause-refused : goal.returns-in-Err-For-clause-refused
returns-in-Err-For-clause-refused c =
    λ fault is. rw c.fault_of.ensures (one_fault c.terms_are_read.ensures c.args.text.now c.args.tokens.now _ fault
    (stop_fault c.terms_are_read.ensures _ _ c.in-Err-For.stop (rw c.in-Err-For.field-0-is at c.in-Err-For.ensures)) is)

pub returns-in-Err-For-clause-place : goal.returns-in-Err-For-clause-place
returns-in-Err-For-clause-place c =
    rw c.fault_of.ensures (stands c.args.text.now c.args.tokens.now _ c.requires
    (stop_fault c.terms_are_read.ensures _ _ c.in-Err-For.stop (rw c.in-Err-For.field-0-is at c.in-Err-For.ensures)))
