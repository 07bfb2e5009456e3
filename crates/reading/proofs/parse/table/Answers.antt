use Rattle.std.proofs.Common.{arith}
use Rattle.std.proofs.lemmas.Grind.{common_steps}
use Rattle.reading.proofs.Colons.{cut}
use Rattle.reading.proofs.parse.table.Goals as goal

pub returns-in_err-scope : goal.returns-in_err-scope
returns-in_err-scope c =
    let told = cut c.args.line.now c.split_once.result c.in_ok-before.before c.in_ok-before.after c.split_once.ensures.cases c.in_ok-before.ensures.ok_part in
    grind (arith, common_steps)

pub returns-in_err-rows : goal.returns-in_err-rows
returns-in_err-rows c =
    let told = cut c.args.line.now c.split_once.result c.in_ok-before.before c.in_ok-before.after c.split_once.ensures.cases c.in_ok-before.ensures.ok_part in
    grind (arith, common_steps)

pub returns : goal.returns
returns c =
    let told = cut c.args.line.now c.split_once.result c.in_ok-before.before c.in_ok-before.after c.split_once.ensures.cases c.in_ok-before.ensures.ok_part in
    grind (arith, common_steps)
