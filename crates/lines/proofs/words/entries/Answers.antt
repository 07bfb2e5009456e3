use Rattle.std.proofs.Common.{arith, length, true-eqb, false-eqb}
use Rattle.std.proofs.lemmas.Grind.{common_steps}
use Rattle.std.proofs.lemmas.Iterator.Consumers.{YieldsList-turn, YieldsList-end}
use Rattle.std.proofs.lemmas.List.{length_push, map_push}
use Rattle.std.proofs.lemmas.List.FromFn.{length-enumerate_from}
use Rattle.lines.specs.Marks.{entries_from, lines_of, noted}
use Rattle.lines.proofs.Entries.{blank, noted_one}
use Rattle.lines.proofs.Newlines.{yields_lines}
use Rattle.lines.proofs.words.entries.Goals as goal

pub loop-index-preserved : goal.loop-index-preserved
loop-index-preserved c =
    let t = YieldsList-turn (yields_lines c.args.text.now _ (cc) (cc)) c.loop-index.yielded _ c.loop-index.yielded_by _ _ (c.in-Some.index, c.in-Some.line) c.in-Some.is c.next.ensures.steps in
    blank (lines_of c.args.text.now) _ _ c.in-Some.index c.in-Some.line.now _ _ _ (length_push c.loop-index.yielded (c.in-Some.index, c.in-Some.line)) t c.stripped-text.ensures c.loop-index.invariant
    (true-eqb (length c.stripped-text.result.now) 0 c.if-not-is_empty.ensures)

pub loop-index-preserved-in-Continue-1 : goal.loop-index-preserved-in-Continue-1
loop-index-preserved-in-Continue-1 c =
    let t = YieldsList-turn (yields_lines c.args.text.now _ (cc) (cc)) c.loop-index.yielded _ c.loop-index.yielded_by _ _ (c.in-Some.index, c.in-Some.line) c.in-Some.is c.next.ensures.steps in
    rw (c.in_ok-push.ensures.items, map_push noted) (noted_one (lines_of c.args.text.now) _ _ c.in-Some.index c.in-Some.line.now _ _ _ (length_push c.loop-index.yielded (c.in-Some.index, c.in-Some.line)) t c.stripped-text.ensures c.loop-index.invariant
    (omega (arith, false-eqb (length c.stripped-text.result.now) 0 c.if-not-is_empty.ensures)))

pub returns : goal.returns
unfolding entries_from
returns c =
    let t = YieldsList-end (yields_lines c.args.text.now _ (cc) (cc)) c.loop-index.yielded _ c.loop-index.yielded_by _ _ c.in-None.is c.next.ensures.steps in
    grind (arith, common_steps, length-enumerate_from)
