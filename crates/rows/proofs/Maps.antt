-- Arrays that a closure made, of their places (`from_fn`) or of another array's elements (`map`), where no call changes the closure. Assumes nothing.
use Prim.Native.Nat.{ℕ, zero, suc, ◌+◌, ◌<◌}
use mathlib.Core.Path.{◌≡◌, refl, sym, ap, subst, ◌∙◌}
use mathlib.Core.List.{List, [], ◌∷◌, map}
use native.Mathlib.Omega.{arith}
use lib.ListN.{length, get_or, length-map}
use denote.Param.Members.{Mut}
use Rattle.std.specs.Fn.{Called}
use Rattle.std.specs.Array.{IsMapOf, MapsFrom, IsFromFnResult, IsFromFnResultFrom}
use Rattle.std.proofs.lemmas.List.{same_lists}
use Rattle.values.specs.Lists.{firsts}

-- every call gave `h` of the place
module _ {F B : Type 0} (g : Mut F (ℕ × Unit {0}) B) (f : F) (h : ℕ → B) (gives : (i : ℕ) (y : B) (q : F) → Called g f (i, tt) y q → (y ≡ h i) × (q ≡ f)) where
  made_from : (ys : List B) (i n : ℕ) → IsFromFnResultFrom g f ys i n → (k : ℕ) (d : B) → k < n → get_or ys (i + k) d ≡ h (i + k)
  made_from ys i zero t k d low = absurd (omega arith)
  made_from ys i (suc n) t zero d low =
      let e : i + 0 ≡ i = omega arith in
      ap (λ j. get_or ys j d) e ∙ t.2.1 d ∙ (gives i t.1 t.0 t.3).0 ∙ ap h (sym e)
  made_from ys i (suc n) t (suc k) d low =
      let e : i + suc k ≡ (i + 1) + k = omega arith in
      ap (λ j. get_or ys j d) e
      ∙ made_from ys (i + 1) n (subst (λ q. IsFromFnResultFrom g q ys (i + 1) n) (gives i t.1 t.0 t.3).1 t.4) k d (omega arith)
      ∙ ap h (sym e)

  pub made_at : {ys : List B} {n : ℕ} → IsFromFnResult g f ys n → (i : ℕ) (d : B) → i < n → get_or ys i d ≡ h i
  made_at {ys = ys} {n = n} is i d low =
      let e : 0 + i ≡ i = omega arith in
      subst (λ j. get_or ys j d ≡ h j) e (made_from ys 0 n is.each i d low)

-- every call gave `h` of what it was passed
module _ {F A B : Type 0} (g : Mut F (A × Unit {0}) B) (f : F) (h : A → B) (gives : (x : A) (y : B) (q : F) → Called g f (x, tt) y q → (y ≡ h x) × (q ≡ f)) where
  mapped_from : (xs : List A) (ys : List B) (i n : ℕ) → MapsFrom g f xs ys i n → (k : ℕ) (c : A) (d : B) → k < n → get_or ys (i + k) d ≡ h (get_or xs (i + k) c)
  mapped_from xs ys i zero t k c d low = absurd (omega arith)
  mapped_from xs ys i (suc n) t zero c d low =
      let e : i + 0 ≡ i = omega arith in
      ap (λ j. get_or ys j d) e ∙ t.4.1 d ∙ (gives t.1 t.2 t.0 t.5).0 ∙ ap h (sym (ap (λ j. get_or xs j c) e ∙ t.3.1 c))
  mapped_from xs ys i (suc n) t (suc k) c d low =
      let e : i + suc k ≡ (i + 1) + k = omega arith in
      ap (λ j. get_or ys j d) e
      ∙ mapped_from xs ys (i + 1) n (subst (λ q. MapsFrom g q xs ys (i + 1) n) (gives t.1 t.2 t.0 t.5).1 t.6) k c d (omega arith)
      ∙ ap (λ j. h (get_or xs j c)) (sym e)

map_at : {A B : Type 0} (h : A → B) (l : List A) (k : ℕ) (c : A) (d : B) → k < length l → h (get_or l k c) ≡ get_or (map h l) k d
map_at h [] k c d low = absurd (omega arith)
map_at h (x ∷ l) zero c d low = refl
map_at h (x ∷ l) (suc k) c d low = map_at h l k c d (omega arith)

mapped : {F A B : Type 0} {g : Mut F (A × Unit {0}) B} {f : F} {xs : List A} {ys : List B} {n : ℕ} → IsMapOf g f xs ys n → length xs ≡ n → A →
    (h : A → B) → ((x : A) (y : B) (q : F) → Called g f (x, tt) y q → (y ≡ h x) × (q ≡ f)) → ys ≡ map h xs
mapped {g = g} {f = f} {xs = xs} {ys = ys} {n = n} is same z h gives =
    same_lists ys (map h xs) (is.long ∙ sym same ∙ sym (length-map xs h))
    (λ k d low.
    let e : 0 + k ≡ k = omega arith in
    subst (λ j. get_or ys j d ≡ h (get_or xs j z)) e (mapped_from g f h gives xs ys 0 n is.each k z d (omega (arith, is.long)))
    ∙ map_at h xs k z d (omega (arith, is.long)))

-- the part in use, where `h` takes what is read past one array's end to what is read past the other's
firsts_map : {A B : Type 0} (h : A → B) (z : A) (n : ℕ) (l : List A) → firsts (λ (b : B). b) (h z) n (map h l) ≡ map h (firsts (λ (a : A). a) z n l)
firsts_map h z zero l = refl
firsts_map h z (suc n) [] = ap (h z ∷◌) (firsts_map h z n [])
firsts_map h z (suc n) (a ∷ l) = ap (h a ∷◌) (firsts_map h z n l)

pub firsts_mapped : {F A B : Type 0} {g : Mut F (A × Unit {0}) B} {f : F} {xs : List A} {ys : List B} {n : ℕ} → IsMapOf g f xs ys n → length xs ≡ n → (z : A) (m : ℕ) →
    (h : A → B) → ((x : A) (y : B) (q : F) → Called g f (x, tt) y q → (y ≡ h x) × (q ≡ f)) → firsts (λ (b : B). b) (h z) m ys ≡ map h (firsts (λ (a : A). a) z m xs)
firsts_mapped {B = B} {xs = xs} is same z m h gives = ap (firsts (λ (b : B). b) (h z) m) (mapped is same z h gives) ∙ firsts_map h z m xs
