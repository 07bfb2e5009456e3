-- The lines before a sheet is open, one more at a time. Assumes nothing.
use Rattle.std.proofs.Common.{◌≡◌, ℕ, ◌+◌, ◌-◌, ◌<◌, ◌≤◌, true, false, List, map, length, get_or, take, drop, codes, sym, ap, ◌∙◌, arith, length-drop}
use Rattle.std.proofs.lemmas.List.{drop_more, drop_all, take_all}
use Rattle.lines.specs.declared.words.Entry.{Entry}
use Rattle.lines.specs.Marks.{Noted, noted}
use Rattle.reading.specs.Readings.{heard_of}
use Rattle.sitting.specs.Tales.{Tale, lined}
use Rattle.sitting.specs.Sittings.{Rules, Turn, turn, lines_told}
use Rattle.sitting.proofs.SceneLaws.{no_entry}

-- what follows a turn
abbrev after : List Noted → Turn → Tale
after ns u = elim u.done [ true ↦ u.tale | false ↦ lines_told u.rules ns u.tale ]

module _ (l : Rules) (entries : List Entry) (i : ℕ) (t : Tale) where
  -- the turn at a place, with the lines that follow it
  abbrev pub turn_with : List Entry → Turn
  turn_with rest = turn l (noted (get_or entries i no_entry)) (heard_of (get_or entries i no_entry).text.now) (map noted rest) t

  -- what follows, as the code cuts it off
  rest_is : take (length entries - (i + 1)) (drop (i + 1) entries) ≡ drop (i + 1) entries
  rest_is = take_all (length entries - (i + 1)) (drop (i + 1) entries) (omega (arith, length-drop (i + 1) entries))

  module _ (h : i < length entries) (u : Turn) (cut : u ≡ turn_with (take (length entries - (i + 1)) (drop (i + 1) entries))) where
    e : u ≡ turn_with (drop (i + 1) entries)
    e = cut ∙ ap turn_with rest_is

    told_next : lines_told l (map noted (drop i entries)) t ≡ after (map noted (drop (i + 1) entries)) u
    unfolding lines_told
    told_next = ap (λ es. lines_told l (map noted es) t) (drop_more entries i no_entry h) ∙ sym (ap (after (map noted (drop (i + 1) entries))) e)

    -- it opened a sheet: the rest was told with it
    pub told_done : u.done ≡ true → lines_told l (map noted (drop i entries)) t ≡ u.tale
    told_done d = told_next ∙ ap (λ b. elim b [ true ↦ u.tale | false ↦ lines_told u.rules (map noted (drop (i + 1) entries)) u.tale ]) d

    pub told_more : u.done ≡ false → lines_told l (map noted (drop i entries)) t ≡ lines_told u.rules (map noted (drop (i + 1) entries)) u.tale
    told_more d = told_next ∙ ap (λ b. elim b [ true ↦ u.tale | false ↦ lines_told u.rules (map noted (drop (i + 1) entries)) u.tale ]) d

  pub told_all : length entries ≤ i → lines_told l (map noted (drop i entries)) t ≡ lined (codes "no sheet was opened") t
  unfolding lines_told
  told_all h = ap (λ es. lines_told l (map noted es) t) (drop_all i entries h)
