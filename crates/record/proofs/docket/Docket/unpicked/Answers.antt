use Rattle.std.proofs.Common.{◌≡◌, ◌≤◌, length, sym, refl, ◌∙◌, subst, lit<, rules}
use Rattle.record.specs.Sound.{Large, Small, Past}
use Rattle.record.proofs.OpenLaws.{count_some, count_few, sizes_length, sizes_large, sizes_small, sizes_past, unpicked, some_none}
use Rattle.record.proofs.docket.Docket.unpicked.Goals as goal

pub overflow_cast-result : goal.overflow_cast-result
overflow_cast-result c = let l : length c.args.sizes.now ≤ 16 = count_few c.args.sizes.now (sym c.in_ok-check_sizes.ensures) in search rules

pub padded-all-requires : goal.padded-all-requires
padded-all-requires c = count_few c.args.sizes.now (sym c.in_ok-check_sizes.ensures)

pub invariant_of-result : goal.invariant_of-result
invariant_of-result c =
    let xs = c.args.sizes.now in
    let ok = sym c.in_ok-check_sizes.ensures in
    let e = sym c.padded-all.ensures in record {
      sixteen = subst (λ t. length t ≡ 16) e (sizes_length xs ok);
      slots = refl;
      bits = lit< tt;
      some = count_some xs ok;
      few = count_few xs ok;
      large = subst (Large (length xs)) e (sizes_large xs ok);
      small = subst Small e (sizes_small xs ok);
      past = subst (Past (length xs)) e (sizes_past xs ok);
      picked = λ q o p. absurd (some_none o (sym p ∙ unpicked 16 q));
    }
