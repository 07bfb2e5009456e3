-- The lines of a sitting, one more at a time. Assumes nothing.
use Rattle.std.proofs.Common.{◌≡◌, ℕ, ◌+◌, ◌<◌, ◌≤◌, List, [], map, length, get_or, drop, ap}
use Rattle.std.proofs.lemmas.List.{drop_more, drop_all}
use Rattle.books.specs.Plain.{Plain}
use Rattle.sheet.specs.Settle.{Reasons}
use Rattle.lines.specs.declared.words.Entry.{Entry}
use Rattle.lines.specs.Marks.{noted}
use Rattle.reading.specs.Readings.{heard_of}
use Rattle.sitting.specs.Scenes.{Scene, obeyed, all_obeyed}

-- what no place of a list holds
abbrev pub no_entry : Entry
no_entry = record { number = 0; text = record { ref_ptr = (0, 0); now = [] } }

module _ (b : Plain) (why : Reasons) (entries : List Entry) (i : ℕ) (s : Scene) where
  pub obeyed_more : i < length entries →
      all_obeyed b why (map noted (drop i entries)) s
      ≡ all_obeyed b why (map noted (drop (i + 1) entries)) (obeyed b why (noted (get_or entries i no_entry)) (heard_of (get_or entries i no_entry).text.now) s)
  unfolding all_obeyed
  obeyed_more h = ap (λ es. all_obeyed b why (map noted es) s) (drop_more entries i no_entry h)

  pub obeyed_all : length entries ≤ i → all_obeyed b why (map noted (drop i entries)) s ≡ s
  unfolding all_obeyed
  obeyed_all h = ap (λ es. all_obeyed b why (map noted es) s) (drop_all i entries h)
