use Rattle.std.proofs.Common.{ℕ, ◌+◌, List, [], ◌++◌, get_or, drop, codes, decimal, sym, refl, ap, ◌∙◌}
use Rattle.terms.specs.declared.line.Line.{Line}
use Rattle.terms.specs.declared.scope.Scope.{Scope}
use Rattle.showing.specs.Texts.{logged_text}
use Rattle.sitting.specs.Closings.{log_told}
use Rattle.sitting.specs.Tales.{tale, lined}
use Rattle.sitting.proofs.TaleLaws.{tale_lined}
use Rattle.sitting.proofs.ClosingLaws.{log_more, log_all}
use Rattle.sitting.proofs.closing.tell_log.Goals as goal

pub loop-number-init : goal.loop-number-init
loop-number-init g c = refl

-- the line at a place, and how it is told
abbrev line_at : List Line → ℕ → Line
line_at log i = get_or log i (record { kind = 0; rule = 0; question = 0; option = 0; reason = [] })

abbrev line_text : List Line → ℕ → Scope → List ℕ
line_text log i s = codes "log " ++ (decimal i ++ (codes ": " ++ logged_text (line_at log i) s))

pub loop-number-preserved : goal.loop-number-preserved
loop-number-preserved g c =
    let log = c.args.log.now in
    let i = c.loop-number.number-counter in
    let b = g.B.Book.model c.args.book.now in
    let t = c.loop-number.told in
    let told = tale_lined t c.line.new.self (line_text log i c.scope.result) c.in_ok-line.ensures.text c.line.ensures.sound in
    ap (log_told b (i + 1) (drop (i + 1) log)) (told ∙ ap (λ s. lined (line_text log i s) (tale t)) c.scope.ensures)
    ∙ sym (log_more b log i _ (tale t) c.loop-number-test.true)
    ∙ c.loop-number.invariant

pub returns : goal.returns
returns g c = sym (log_all _ _ _ _ c.loop-number-test.false) ∙ c.loop-number.invariant
