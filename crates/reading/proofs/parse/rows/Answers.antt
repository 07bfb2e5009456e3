use Rattle.std.proofs.Common.{arith}
use Rattle.std.proofs.lemmas.Grind.{common_steps}
use Rattle.std.proofs.lemmas.Iterator.Consumers.{YieldsList-turn, YieldsList-end}
use Rattle.lines.proofs.Trims.{trim_is}
use Rattle.reading.specs.Tables.{rows_after}
use Rattle.reading.proofs.Rows.{no_rows, some_rows, yields_pieces}
use Rattle.reading.proofs.parse.rows.Goals as goal

pub returns-then-is_empty : goal.returns-then-is_empty
returns-then-is_empty c =
    let bare = trim_is c.args.text.now c.trim.result.now c.utf8.text c.trim.utf8 c.trim.ensures.value in
    grind (arith, common_steps, no_rows)

pub returns-in_err-options : goal.returns-in_err-options
unfolding rows_after
returns-in_err-options c =
    let bare = trim_is c.args.text.now c.trim.result.now c.utf8.text c.trim.utf8 c.trim.ensures.value in
    let t = YieldsList-turn (yields_pieces c.args.text.now _ (cc) (cc) (cc)) c.loop-written.yielded _ c.loop-written.yielded_by _ _ c.in-Some.written c.in-Some.is c.next.ensures.steps in
    grind (arith, common_steps, some_rows)

pub loop-written-preserved : goal.loop-written-preserved
unfolding rows_after
loop-written-preserved c =
    let t = YieldsList-turn (yields_pieces c.args.text.now _ (cc) (cc) (cc)) c.loop-written.yielded _ c.loop-written.yielded_by _ _ c.in-Some.written c.in-Some.is c.next.ensures.steps in
    grind (arith, common_steps)

pub returns : goal.returns
unfolding rows_after
returns c =
    let bare = trim_is c.args.text.now c.trim.result.now c.utf8.text c.trim.utf8 c.trim.ensures.value in
    let t = YieldsList-end (yields_pieces c.args.text.now _ (cc) (cc) (cc)) c.loop-written.yielded _ c.loop-written.yielded_by _ _ c.in-None.is c.next.ensures.steps in
    grind (arith, common_steps, some_rows)
