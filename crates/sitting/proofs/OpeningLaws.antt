-- What opening a sheet comes to, by whether it is refused. Assumes nothing.
use Rattle.std.proofs.Common.{◌≡◌, ℕ, true, false, List, length, Some, None, ap}
use Rattle.terms.specs.declared.refusal.Refusal.{Refusal}
use Rattle.books.specs.Plain.{Plain}
use Rattle.books.specs.Pair.{pair_fault, pair_model, pair_reasons}
use Rattle.tables.specs.Table.{table_model, table_reasons}
use Rattle.gaps.specs.Gap.{gap_model, gap_reasons}
use Rattle.differs.specs.Differ.{differ_model, differ_reasons}
use Rattle.ledger.specs.Ledgers.{ledger_fault}
use Rattle.record.specs.Calls.{open_fault}
use Rattle.sheet.specs.Settle.{Reasons}
use Rattle.lines.specs.Marks.{Noted}
use Rattle.terms.specs.Denials.{denied_text}
use Rattle.sitting.specs.Tales.{Tale, answered}
use Rattle.sitting.specs.Sittings.{Opening, Rules, opened_text, attended, unless_denied, unless_refused, refused_book, on_book, on_two, on_three, on_rules}

module _ (n : Noted) (sizes : List ℕ) (ns : List Noted) (t : Tale) where
  module _ (b : Plain) (why : Reasons) where
    pub book_granted : None ≡ open_fault sizes → record { done = true; tale = attended b why sizes ns (answered n.text (opened_text (length sizes) b.rules) t) } ≡ on_book b why n sizes ns t
    unfolding on_book
    book_granted e = ap (λ f. unless_denied f b why n sizes ns t) e

    pub book_denied : (e : Refusal) → Some e ≡ open_fault sizes → record { done = false; tale = answered n.text (denied_text e) t } ≡ on_book b why n sizes ns t
    unfolding on_book
    book_denied e h = ap (λ f. unless_denied f b why n sizes ns t) h

  module _ (a : Plain) (why_a : Reasons) (b : Plain) (why_b : Reasons) where
    pub two_granted : None ≡ pair_fault a b → on_book (pair_model a b) (pair_reasons a.rules why_a why_b) n sizes ns t ≡ on_two a why_a b why_b n sizes ns t
    unfolding on_two
    two_granted e = ap (λ f. unless_refused f n t (on_book (pair_model a b) (pair_reasons a.rules why_a why_b) n sizes ns t)) e

    pub two_refused : (e : Refusal) → Some e ≡ pair_fault a b → refused_book n e t ≡ on_two a why_a b why_b n sizes ns t
    unfolding on_two
    two_refused e h = ap (λ f. unless_refused f n t (on_book (pair_model a b) (pair_reasons a.rules why_a why_b) n sizes ns t)) h

  module _ (a : Plain) (why_a : Reasons) (b : Plain) (why_b : Reasons) (c : Plain) (why_c : Reasons) where
    pub three_granted : None ≡ pair_fault b c → on_two a why_a (pair_model b c) (pair_reasons b.rules why_b why_c) n sizes ns t ≡ on_three a why_a b why_b c why_c n sizes ns t
    unfolding on_three
    three_granted e = ap (λ f. unless_refused f n t (on_two a why_a (pair_model b c) (pair_reasons b.rules why_b why_c) n sizes ns t)) e

    pub three_refused : (e : Refusal) → Some e ≡ pair_fault b c → refused_book n e t ≡ on_three a why_a b why_b c why_c n sizes ns t
    unfolding on_three
    three_refused e h = ap (λ f. unless_refused f n t (on_two a why_a (pair_model b c) (pair_reasons b.rules why_b why_c) n sizes ns t)) h

  module _ (l : Rules) where
    abbrev on_all : Opening
    on_all = on_three (table_model l.rows l.tables) (table_reasons l.rows l.tables) (gap_model l.gaps) (gap_reasons l.gaps) (differ_model l.differs) (differ_reasons l.differs) n sizes ns t

    pub rules_granted : None ≡ ledger_fault l.rows l.tables l.gaps l.differs → on_all ≡ on_rules l n sizes ns t
    unfolding on_rules
    rules_granted e = ap (λ f. unless_refused f n t on_all) e

    pub rules_refused : (e : Refusal) → Some e ≡ ledger_fault l.rows l.tables l.gaps l.differs → refused_book n e t ≡ on_rules l n sizes ns t
    unfolding on_rules
    rules_refused e h = ap (λ f. unless_refused f n t on_all) h
