-- Demand 3, for every list of picks. Assumes nothing.
use Prim.Native.Nat.{ℕ, ◌+◌}
use mathlib.Core.Path.{◌≡◌, refl, sym, ◌∙◌}
use mathlib.Core.Bool.{false}
use mathlib.Core.List.{List, [], ◌∷◌}
use native.Mathlib.Omega.{arith}
use lib.Dec.{T}
use lib.ListN.{length, length-append}
use Rattle.values.specs.declared.Site.{Site}
use Rattle.std.specs.List.{list_all}
use Rattle.values.proofs.Bools.{or-false-l, or-false_r}
use Rattle.values.proofs.ListLaws.{count-append}
use Rattle.rows.specs.Relations.{Row}
use Rattle.nets.specs.declared.Pick.{Pick}
use Rattle.nets.specs.Nets.{Net}
use Rattle.nets.specs.Tables.{table_at, rows_fit, distinct}
use Rattle.nets.specs.Scenes.{scene_of}
use Rattle.nets.specs.Steps.{step}
use Rattle.nets.specs.Accounts.{next_net, after, answers, reported_added, reported_taken, post, same_posting, times, added_at, taken_at, added, taken, acted_at, acted, standing}
use Rattle.nets.specs.Demand3.{EveryRun, keys_of}
use Rattle.nets.proofs.SourceLaws.{sound-fits, sound-distinct}
use Rattle.nets.proofs.KeyLaws.{sum_keys}
use Rattle.nets.proofs.Keys.{keys_differ, keys_cover}
use Rattle.nets.proofs.StepLaws.{Stepped, stepped}

-- what is proved by induction: `Demand3` without the sums over keys
record Kept (net : Net) (ps : List Pick) : Type 0 where
  fit : T (list_all rows_fit (after net ps).tables)
  names : T (distinct (after net ps).tables)
  balance :
      (s : Site) (n : ℕ) (r : Row) →
      standing (after net ps) s n r + times (post s n r) (taken net ps) ≡ standing net s n r + times (post s n r) (added net ps)
  untouched : (s : Site) (n : ℕ) → acted net ps s n ≡ false → table_at s n (after net ps).tables ≡ table_at s n net.tables
  added_all : reported_added net ps ≡ length (added net ps)
  taken_all : reported_taken net ps ≡ length (taken net ps)

kept : (net : Net) (ps : List Pick) → T (list_all rows_fit net.tables) → T (distinct net.tables) → Kept net ps
unfolding next_net after answers added taken acted added_at taken_at acted_at
kept net [] f d =
    record { fit = f; names = d; balance = λ s n r. refl; untouched = λ s n e. refl; added_all = refl; taken_all = refl }
kept net (p ∷ ps) f d = go (stepped net p f d) (kept (next_net net p) ps (stepped net p f d).fit (stepped net p f d).names)
  where
    go : Stepped net (scene_of net p) (step net p) → Kept (next_net net p) ps → Kept net (p ∷ ps)
    go o k =
        record {
          fit = k.fit;
          names = k.names;
          balance = λ s n r. omega (arith, k.balance s n r, o.balance s n r, count-append (same_posting (post s n r)) (taken_at net p) (taken (next_net net p) ps), count-append (same_posting (post s n r)) (added_at net p) (added (next_net net p) ps));
          untouched = λ s n e. k.untouched s n (or-false_r (acted_at net p s n) (acted (next_net net p) ps s n) e) ∙ o.untouched s n (or-false-l (acted_at net p s n) (acted (next_net net p) ps s n) e);
          added_all = omega (arith, k.added_all, o.added, length-append (added_at net p) (added (next_net net p) ps));
          taken_all = omega (arith, k.taken_all, o.taken, length-append (taken_at net p) (taken (next_net net p) ps));
        }

-- after any list of picks from a sound net
pub demand3 : EveryRun
demand3 net h ps =
    let k = kept net ps (sound-fits net h) (sound-distinct net h) in
    record {
      fit = k.fit;
      names = k.names;
      balance = k.balance;
      untouched = k.untouched;
      added_all = k.added_all;
      taken_all = k.taken_all;
      added_accounts = k.added_all ∙ sym (sum_keys (keys_of (added net ps)) (keys_differ (added net ps)) (added net ps) (keys_cover (added net ps)));
      taken_accounts = k.taken_all ∙ sym (sum_keys (keys_of (taken net ps)) (keys_differ (taken net ps)) (taken net ps) (keys_cover (taken net ps)));
      added_sum = λ keys d c. k.added_all ∙ sym (sum_keys keys d (added net ps) c);
      taken_sum = λ keys d c. k.taken_all ∙ sym (sum_keys keys d (taken net ps) c);
    }
