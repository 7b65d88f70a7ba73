-- `load_groups::starts::starts_from` meets its contract: the threads in use are the first of the array, whatever is saved.
use Prim.Native.Nat.{ℕ, zero, suc, ◌≤◌, ◌<◌}
use mathlib.Core.Path.{◌≡◌, refl, sym, ap, ap₂, ◌∙◌}
use mathlib.Core.List.{List, [], ◌∷◌, ◌++◌, map}
use native.Mathlib.Omega.{arith}
use native.Mathlib.Numerals.{add-one}
use lib.ListN.{length, get_or, take}
use lib.Seq.{take-suc}
use Rattle.std.proofs.lemmas.List.{map-append}
use Rattle.values.specs.Lists.{places}
use Rattle.values.proofs.ByPlace.{by_next}
use Rattle.nets.specs.declared.Saved.{Saved}
use Rattle.nets.specs.declared.Thread.{Thread}
use Rattle.nets.specs.Nets as M
use Rattle.nets.specs.View.{no_thread, thread_at, threads_of}
use Rattle.load_walk.specs.Walking.{put_threads, Each, Unheld, unheld_of, Gives}
use Rattle.load_groups.proofs.ItemLaws.{matched, each_taken}
use Rattle.load_groups.proofs.starts.starts_from.Goals as goal

started : (ds : List M.Node) (saved : List Saved) (n : ℕ) (xs : List Thread) → n ≤ length xs → ((i : ℕ) → i < n → Unheld (get_or xs i no_thread)) → map unheld_of (take n xs) ≡ threads_of ds saved n xs
started ds saved zero xs h all = refl
started ds saved (suc n) xs h all =
    let x = get_or xs n no_thread in
    ap (map unheld_of) (take-suc xs n no_thread (omega arith))
    ∙ map-append unheld_of (take n xs) (x ∷ [])
    ∙ ap₂ (λ (l : List M.Thread) (t : M.Thread). l ++ (t ∷ [])) (started ds saved n xs (omega arith) (λ i l. all i (omega arith))) (all n (omega arith) _ _)
    ∙ sym (by_next (thread_at ds saved xs) n)
    ∙ ap (λ (m : ℕ). map (thread_at ds saved xs) (places 0 m)) (add-one n)

pub returns : goal.returns
returns c =
    matched (Gives 8 c.args.file.now 5 c.args.from (λ ts. put_threads (map unheld_of ts)) (Each Unheld no_thread)) _ _ c.walk.result c.walk.ensures
    (λ read k.
    let few : read.count ≤ length read.items = omega (arith, k.long, k.few) in
    (λ ds saved. rw (← started ds saved read.count read.items few (each_taken Unheld no_thread read.count read.items few k.kept)) k.leads, k.going))
