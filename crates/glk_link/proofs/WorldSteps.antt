-- What the packages that are loaded say of the world of a link.
use Rattle.std.proofs.Common.{◌≡◌, ◌<◌, ◌≤◌, ◌+◌, ◌-◌, ◌^◌, ◌++◌, ◌⊎◌, ℕ, zero, suc, List, [], ◌∷◌, length, map, get_or, All, inl, inr, refl, sym, ap, ◌∙◌, subst, arith}
use Rattle.std.specs.List.{Contains, AllPairs, sum_by}
use Rattle.std.proofs.lemmas.Bool.{cases_lt, cases_order}
use Rattle.std.proofs.lemmas.List.{get_or_default}
use Rattle.std.proofs.lemmas.List.Elements.{All-head, All-tail, All-append, Contains-get_or}
use Rattle.std.proofs.lemmas.List.Sums.{sum_by-cons}
use Rattle.glk_obj.specs.Object.{IsObject}
use Rattle.std.proofs.lemmas.List.Concat.{flat_map-cons}
use Rattle.glk_arena.specs.World.{Package, objects_of, file_bytes, symbol_count}
use Rattle.glk_base.specs.Limits.{file_limit}
use Rattle.glk_arena.specs.Stored.{IsWhole}
use Rattle.glk_link.specs.World.{AreObjects, byte_count, rows, IsDefinition}
use Rattle.glk_link.specs.Reach.{Misses}
use Rattle.glk_link.specs.Refusals.{IsFirstMiss}
use Rattle.glk_link.specs.Plans.{IsFitting}
use Rattle.glk_link.proofs.RowLaws.{rows_within}
use Rattle.glk_link.proofs.PlaceSteps.{place_below}

-- the objects of a package and of those after it
objects_here : (p : Package) (later : List Package) → objects_of (p ∷ later) ≡ p.objects ++ objects_of later
unfolding objects_of
objects_here p later = flat_map-cons (λ q. q.objects) p later

byte_append : (xs ys : List (List ℕ)) → byte_count (xs ++ ys) ≡ byte_count xs + byte_count ys
unfolding byte_count
byte_append [] ys = omega arith
byte_append (x ∷ xs) ys = let behind = byte_append xs ys in omega (arith, behind)

total_bytes : (objects : List (List ℕ)) → byte_count objects ≡ sum_by length objects
unfolding byte_count
total_bytes [] = refl
total_bytes (o ∷ objects) = let h = total_bytes objects in omega (arith, h, sum_by-cons length o objects)

no_objects : AreObjects (objects_of [])
unfolding objects_of
no_objects k d l = absurd (omega (arith, l))

no_bytes : byte_count (objects_of []) ≡ 0
unfolding objects_of byte_count
no_bytes = refl

-- packages are whole: their objects are objects, and no longer together than the files
pub fitting : (world : List Package) → All IsWhole world → IsFitting world
fitting [] whole = record { objects = no_objects; fit = omega (arith, no_bytes) }
fitting (p ∷ later) whole =
    let here : IsWhole p = All-head IsWhole p later whole in
    let behind = fitting later (All-tail IsWhole p later whole) in
    let split = objects_here p later in
    let count : byte_count (objects_of (p ∷ later)) ≡ sum_by length p.objects + byte_count (objects_of later) =
    ap (λ xs. byte_count xs) split ∙ byte_append p.objects (objects_of later) ∙ ap (λ k. k + byte_count (objects_of later)) (total_bytes p.objects) in
    record {
      objects = let P : List (List ℕ) → Type 0 = λ xs. AreObjects xs in
          subst P (sym split) (All-append IsObject p.objects (objects_of later) here.objects behind.objects);
      fit = omega (arith, count, here.fit, behind.fit, sum_by-cons (λ q. length q.file) p later);
    }

-- rows take few bytes each
pub rows_low : (world : List Package) → IsFitting world → file_bytes world ≤ file_limit → symbol_count world ≤ 2 ^ 30
rows_low world fits small = omega (arith, rows_within (objects_of world) fits.objects, fits.fit, small)

-- no more definitions are kept than there are rows
pub kept_few : (world : List Package) (kept : List ℕ) → AllPairs (λ i j. i < j) kept → All (IsDefinition world) kept → length kept ≤ rows (objects_of world)
kept_few world kept rising range =
    elim (cases_lt 0 (length kept)) [
      | inl some ↦
          let last : ℕ = length kept - 1 in
          let low = place_below kept rising last (omega (arith, some)) in
          let high = (range last 0 (omega (arith, some))).row in
          omega (arith, some, low, high)
      | inr none ↦ omega (arith, none)
    ]

-- the first call of what is missing among these definitions, which rise
pub first_among : (world : List Package) (kept : List ℕ) (n k : ℕ) → AllPairs (λ i j. i < j) kept → n < length kept → Misses world (get_or kept n 0) k
    → ((m : ℕ) → m < k → Misses world (get_or kept n 0) m → ⊥) → ((j : ℕ) → j < n → (m : ℕ) → Misses world (get_or kept j 0) m → ⊥)
    → IsFirstMiss world (Contains kept) (get_or kept n 0) k
first_among world kept n k rising lt misses least earlier = record {
  is_kept = Contains-get_or kept n 0 lt;
  misses = misses;
  least = λ j m c h. behind j m c h (cases_order c.0 n);
}
  where
    behind : (j m : ℕ) (c : Contains kept j) → Misses world j m → (c.0 ≡ n) ⊎ ((c.0 < n) ⊎ (n < c.0)) → (get_or kept n 0 < j) ⊎ ((get_or kept n 0 ≡ j) × (k ≤ m))
    behind j m c h (inl same) =
        let at : get_or kept n 0 ≡ j = ap (λ q. get_or kept q 0) (sym same) ∙ get_or_default kept c.0 0 j c.1 ∙ c.2 in
        inr (
          at,
          elim (cases_lt m k) [
            | inl less ↦ absurd (least m less (let P : ℕ → Type 0 = λ q. Misses world q m in subst P (sym at) h))
            | inr above ↦ above
          ],
        )
    behind j m c h (inr (inl less)) =
        let at : j ≡ get_or kept c.0 0 = sym (get_or_default kept c.0 0 j c.1 ∙ c.2) in
        absurd (earlier c.0 less m (let P : ℕ → Type 0 = λ q. Misses world q m in subst P at h))
    behind j m c h (inr (inr more)) =
        let at : get_or kept c.0 0 ≡ j = get_or_default kept c.0 0 j c.1 ∙ c.2 in
        inl (let up = rising n c.0 0 more c.1 in omega (arith, up, at))

pub none_among : (world : List Package) (kept : List ℕ) (n : ℕ) → length kept ≤ n → ((j : ℕ) → j < n → (m : ℕ) → Misses world (get_or kept j 0) m → ⊥)
    → (i k : ℕ) → Contains kept i → Misses world i k → ⊥
none_among world kept n le none i k c h =
    let at : i ≡ get_or kept c.0 0 = sym (get_or_default kept c.0 0 i c.1 ∙ c.2) in
    none c.0 (omega (arith, c.1, le)) k (let P : ℕ → Type 0 = λ q. Misses world q k in subst P at h)
