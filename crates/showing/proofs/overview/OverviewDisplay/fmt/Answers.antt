use Rattle.std.proofs.Common.{◌≡◌, ℕ, ◌+◌, ◌-◌, ◌<◌, min, List, ◌++◌, length, get_or, take, drop, codes, sym, refl, ap, ◌∙◌, arith, rules}
use Rattle.std.proofs.lemmas.List.{get_or-take, length-take, length-drop}
use Rattle.std.proofs.lemmas.Grind.{get_or_after_one}
use Rattle.std.proofs.Output.{has_written_of_eq, has_written_append, writes_in_calls_nil}
use Rattle.showing.specs.Texts.{options_text, further, overview_text}
use Rattle.showing.proofs.TextLaws.{further_more}
use Rattle.showing.proofs.overview.OverviewDisplay.fmt.Goals as goal

pub loop-mask-init : goal.loop-mask-init
unfolding further
loop-mask-init g c = λ plain. record { wrote = writes_in_calls_nil g.W.Write.write_str_gives _; plain = plain }

-- a mask of the part after the first
past_first : (masks : List ℕ) (n k : ℕ) → k < n → get_or (take n (drop 1 masks)) k 0 ≡ get_or masks (k + 1) 0
past_first masks n k h =
    let e : 1 + k ≡ k + 1 = omega arith in
    get_or-take n (drop 1 masks) k 0 h ∙ get_or_after_one masks k 0 ∙ ap (λ i. get_or masks i 0) e

pub loop-mask-preserved : goal.loop-mask-preserved
loop-mask-preserved g c = λ plain.
    let x = c.loop-mask.invariant plain in
    let k = c.loop-mask.mask-index in
    let masks = c.args.self.now.masks in
    has_written_of_eq g.W.Write.write_str_gives _ _ _ _
    (ap (λ m. further k masks ++ (codes " / " ++ options_text m)) (past_first masks (c.from.result - 1) k (omega (arith, c.loop-mask-test.true, length-take (c.from.result - 1) (drop 1 masks)))) ∙ sym (further_more k masks))
    (has_written_append g.W.Write.write_str_gives _ _ _ _ _ x (c.in_ok-write-2.ensures.writes x.plain refl))

pub returns-clause-writes : goal.returns-clause-writes
unfolding overview_text
returns-clause-writes g c = λ plain ok.
    let x = c.in_ok-write.ensures.writes plain refl in
    let masks = c.args.self.now.masks in
    let sixteen : length masks ≡ 16 = search rules in
    let n : c.loop-mask.mask-index ≡ min c.args.self.now.count 16 - 1 =
    omega (arith, c.loop-mask-test.false, c.loop-mask.auto.mask-index-end, c.from.ensures, c.clamp.ensures, length-take (c.from.result - 1) (drop 1 masks), length-drop 1 masks, sixteen) in
    has_written_of_eq g.W.Write.write_str_gives _ _ _ _ (ap (λ k. options_text (get_or masks 0 0) ++ further k masks) n)
    (has_written_append g.W.Write.write_str_gives _ _ _ _ _ x (c.loop-mask.invariant x.plain))
