use Rattle.std.proofs.Common.{◌≡◌, suc, ◌+◌, ◌-◌, not, get_or, drop, is_some, Some, None, sym, ap, ◌∙◌, add-one, arith}
use Rattle.std.proofs.lemmas.List.{at_drop_more, at_drop_all}
use Rattle.tables.specs.Table.{unfit, some_row, row_supports}
use Rattle.tables.proofs.RowLaws.{unfit_none, unfit_more, unfit_here, unfit_past, some_here, some_later, some_none}
use Rattle.tables.proofs.rows.Ask.supported.Goals as goal

pub loop-place-init : goal.loop-place-init
loop-place-init c = unfit_none c.args.self.position c.args.self.option c.args.masks (get_or c.args.part.now c.row.row-index 0)

pub loop-place-preserved : goal.loop-place-preserved
loop-place-preserved c =
    let k = c.loop-place.place in
    let row = get_or c.args.part.now c.row.row-index 0 in
    ap (λ i. unfit i c.args.self.position c.args.self.option c.args.masks row) (add-one k)
    ∙ unfit_more k c.args.self.position c.args.self.option c.args.masks row c.loop-place.invariant (sym c.if-not-fits_at.ensures)

-- the row does not fit at this position, so it supports nothing
pub row-preserved : goal.row-preserved
row-preserved c =
    let k = c.loop-place.place in
    let xs = c.args.part.now in
    let i = c.row.row-index in
    let row = get_or xs i 0 in
    let test = row_supports c.args.self.count c.args.self.position c.args.self.option c.args.masks in
    let e : c.args.self.count - suc k + suc k ≡ c.args.self.count = omega (arith, c.loop-place-test.true) in
    let f : unfit c.args.self.count c.args.self.position c.args.self.option c.args.masks row ≡ Some k =
    ap (λ n. unfit n c.args.self.position c.args.self.option c.args.masks row) (sym e)
    ∙ unfit_past (suc k) (c.args.self.count - suc k) c.args.self.position c.args.self.option c.args.masks row k
    (unfit_here k c.args.self.position c.args.self.option c.args.masks row c.loop-place.invariant (sym c.if-not-fits_at.ensures)) in
    sym
    (sym c.row.invariant
    ∙ at_drop_more (some_row test) xs i 0 c.row-test.true
    ∙ some_later test row (drop (i + 1) xs) (ap (λ u. not (is_some u)) f))

pub returns-after-loop-place : goal.returns-after-loop-place
returns-after-loop-place c =
    let xs = c.args.part.now in
    let i = c.row.row-index in
    let row = get_or xs i 0 in
    let test = row_supports c.args.self.count c.args.self.position c.args.self.option c.args.masks in
    let e : c.loop-place.place ≡ c.args.self.count = omega (arith, c.loop-place-test.false, c.loop-place.auto.place-end) in
    let f : unfit c.args.self.count c.args.self.position c.args.self.option c.args.masks row ≡ None =
    ap (λ n. unfit n c.args.self.position c.args.self.option c.args.masks row) (sym e) ∙ c.loop-place.invariant in
    sym
    (sym c.row.invariant
    ∙ at_drop_more (some_row test) xs i 0 c.row-test.true
    ∙ some_here test row (drop (i + 1) xs) (ap (λ u. not (is_some u)) f))

pub returns-after-row : goal.returns-after-row
returns-after-row c =
    let test = row_supports c.args.self.count c.args.self.position c.args.self.option c.args.masks in
    sym (sym c.row.invariant ∙ at_drop_all (some_row test) c.args.part.now c.row.row-index c.row-test.false ∙ some_none test)
