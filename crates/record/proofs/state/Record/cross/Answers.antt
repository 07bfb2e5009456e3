use Rattle.std.proofs.Common.{◌≡◌, length, set, sym, lit<, rules}
use Rattle.record.specs.Calls.{pushed}
use Rattle.record.specs.View.{view}
use Rattle.record.proofs.SoundLaws.{head_question}
use Rattle.record.proofs.RecordLaws.{sound_of, fits, kept}
use Rattle.record.proofs.state.Record.cross.Goals as goal

pub bounds-self-question : goal.bounds-self-question
bounds-self-question c =
    head_question (view c.args.self.now) (sound_of c.args.self.now) c.args.line.now (sym c.if-not-admits.ensures)

pub bounds-self-question-2 : goal.bounds-self-question-2
bounds-self-question-2 c =
    head_question (view c.args.self.now) (sound_of c.args.self.now) c.args.line.now (sym c.if-not-admits.ensures)

pub push-requires : goal.push-requires
push-requires c =
    let four : length c.args.line.now.reason ≡ 4 = search rules in
    (lit< tt, fits c.args.self.now c.args.line.now four (sym c.if-not-admits.ensures))

pub invariant_of-self : goal.invariant_of-self
invariant_of-self c =
    let four : length c.args.line.now.reason ≡ 4 = search rules in
    let k = kept c.args.self.now c.args.line.now four (sym c.if-not-admits.ensures) c.with.result _ c.with.ensures c.push.ensures.items in
    record { rules = k.rules; questions = k.questions; heads = k.heads; declared = k.declared; once = k.once; backed = k.backed; counted = k.counted }
