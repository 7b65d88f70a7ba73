-- One more element moved down by a list that closes up. Assumes nothing.
use mathlib.Core.Path.{◌≡◌, ap, sym, ◌∙◌}
use mathlib.Core.List.{List}
use Prim.Native.Nat.{ℕ, suc, ◌+◌, ◌<◌}
use native.Mathlib.Omega.{arith}
use lib.ListN.{length, get_or, set, drop}
use lib.Seq.{paste, paste-suc, drop-paste}
use Rattle.std.proofs.lemmas.List.{get_or-drop, length-drop}

module _ {X : Type 0} (old : List X) (hole : ℕ) where
  pub one_more : (k : ℕ) (x : X) → hole + 1 + k < length old → x ≡ get_or (paste old hole (drop (hole + 1) old) k) (hole + 1 + k) x →
      set (paste old hole (drop (hole + 1) old) k) (hole + k) x ≡ paste old hole (drop (hole + 1) old) (k + 1)
  one_more k x h read =
      let s = drop (hole + 1) old in
      let long = length-drop (hole + 1) old in
      let p : List X = paste old hole s k in
      let at : hole + 1 + k ≡ hole + k + 1 = omega arith in
      let on : suc k ≡ k + 1 = omega arith in
      let is : x ≡ get_or s k x =
      read ∙ ap (λ i. get_or p i x) at ∙ sym (get_or-drop (hole + k) p 1 x) ∙ ap (λ l. get_or l 1 x) (drop-paste old hole s k (omega arith) (omega arith)) ∙ get_or-drop (hole + k) old 1 x
      ∙ ap (λ i. get_or old i x) (sym at) ∙ sym (get_or-drop (hole + 1) old k x) in
      ap (set p (hole + k)) is ∙ paste-suc old hole s k x (omega arith) (omega arith) ∙ ap (paste old hole s) on
