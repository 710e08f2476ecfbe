-- There is one answer of a link.
use Rattle.std.proofs.Common.{◌≡◌, ◌<◌, ◌≤◌, ◌⊎◌, ℕ, List, All, length, Option, Some, None, Ok, Err, inl, inr, refl, sym, ◌∙◌, ap, subst, arith}
use Rattle.std.specs.Prelude.{Result}
use Rattle.glk_cause.specs.declared.cause.Cause.{Cause}
use Rattle.glk_io.specs.Contents.{Contents}
use Rattle.glk_cause.specs.Chain.{IsOneAt, IsOne}
use Rattle.glk_cause.proofs.ChainLaws.{then_one, demands_one, gives_one, finds_one, then_given, demands_given, gives_given, finds_given}
use Rattle.glk_arena.specs.World.{Package}
use Rattle.glk_arena.specs.Waves.{IsOneLoad}
use Rattle.glk_init_lists.specs.Schedules.{IsOneSchedule}
use Rattle.glk_keys.specs.Programs.{Program}
use Rattle.glk_link.specs.Plain.{IsPlain}
use Rattle.glk_link.specs.Reach.{AreKept}
use Rattle.glk_link.specs.Refusals.{undefined_call}
use Rattle.glk_link.specs.Built.{IsBuilt}
use Rattle.glk_link.specs.Passes.{Kept, Linked, IsReach, Reaches, IsUndefined, IsLinkOf, Keeps, LinksWorld, LinksPackages, load_inputs, program_with, LoadsPackages, IsOneLink, IsOneFirst, IsOneImage}
use Rattle.glk_link.proofs.ToldLaws.{puts_one, told_one}
use Rattle.glk_link.proofs.ImageOnce.{kept_once, start_once, image_of_once}

-- The entry, and what is kept.

reach_once : (entry : List ℕ) (world : List Package) → IsPlain world → (k l : Kept) → IsReach entry world k → IsReach entry world l → k ≡ l
reach_once entry world plain k l x y =
    ap (λ w. let m : Kept = record { world = w; start = k.start; kept = k.kept } in m) (x.packages ∙ sym y.packages)
    ∙ ap (λ n. let m : Kept = record { world = l.world; start = n; kept = k.kept } in m) (start_once world entry k.start l.start plain x.start y.start)
    ∙ ap (λ xs. let m : Kept = record { world = l.world; start = l.start; kept = xs } in m) (kept_once world entry k.kept l.kept x.kept y.kept)

reaches_one : (entry : List ℕ) (world : List Package) → IsPlain world → IsOneAt (Reaches entry) world
reaches_one entry world plain =
    then_one world (demands_one world) (λ w has.
    let P : List Package → Type 0 = λ x. IsPlain x in
    gives_one w (reach_once entry w (subst P (demands_given world w has).0 plain)))

are_kept : (entry : List ℕ) (world : List Package) (k : Kept) → Reaches entry world (Ok k) → AreKept k.world entry k.kept
are_kept entry world k h =
    let t = then_given world k h in
    let is = gives_given t.0 k t.2 in
    let P : List Package → Type 0 = λ w. AreKept w entry k.kept in
    subst P (sym is.packages) is.kept

-- The first call of what is missing.

record IsSamePlace (i k j m : ℕ) : Type 0 where
  row : i ≡ j
  index : k ≡ m

place_once : (i k j m : ℕ) → (i < j) ⊎ ((i ≡ j) × (k ≤ m)) → (j < i) ⊎ ((j ≡ i) × (m ≤ k)) → IsSamePlace i k j m
place_once i k j m (inl a) (inl b) = absurd (omega (arith, a, b))
place_once i k j m (inl a) (inr b) = absurd (omega (arith, a, b.0))
place_once i k j m (inr a) (inl b) = absurd (omega (arith, a.0, b))
place_once i k j m (inr a) (inr b) = record { row = a.0; index = omega (arith, a.1, b.1) }

undefined_once : (k : Kept) (a b : Cause) → IsUndefined k a → IsUndefined k b → a ≡ b
undefined_once k a b x y =
    let same = place_once x.row x.index y.row y.index (x.first.least y.row y.index y.first.is_kept y.first.misses) (y.first.least x.row x.index x.first.is_kept x.first.misses) in
    x.refusal_is ∙ ap (λ i. undefined_call k.world i x.index) same.row ∙ ap (λ n. undefined_call k.world y.row n) same.index ∙ sym y.refusal_is

-- The image.

link_once : (entry : List ℕ) (k : Kept) → AreKept k.world entry k.kept → All (IsBuilt k.world) k.kept → (m n : Linked) → IsLinkOf k m → IsLinkOf k n → m ≡ n
link_once entry k are built m n x y =
    ap (λ w. let l : Linked = record { world = w; kept = m.kept; image = m.image } in l) (x.packages ∙ sym y.packages)
    ∙ ap (λ xs. let l : Linked = record { world = n.world; kept = xs; image = m.image } in l) (x.kept ∙ sym y.kept)
    ∙ ap (λ i. let l : Linked = record { world = n.world; kept = n.kept; image = i } in l) (image_of_once k.world entry k.kept k.start m.image n.image are built x.image y.image)

-- The chain.

keeps_one : (entry : List ℕ) → IsOne (Keeps entry)
keeps_one entry world =
    then_one world (demands_one world) (λ u plain.
    then_one u (reaches_one entry u (demands_given world u plain).1) (λ k reached. finds_one k (undefined_once k)))

-- what passes all of these is kept
are_kept_all : (entry : List ℕ) (world : List Package) (k : Kept) → Keeps entry world (Ok k) → AreKept k.world entry k.kept
are_kept_all entry world k h =
    let plain = then_given world k h in
    let reached = then_given plain.0 k plain.2 in
    let P : Kept → Type 0 = λ n. AreKept n.world entry n.kept in
    subst P (finds_given reached.0 k reached.2) (are_kept entry plain.0 reached.0 reached.1)

world_one : (entry : List ℕ) → IsOne (LinksWorld entry)
world_one entry world =
    then_one world (keeps_one entry world) (λ k kept.
    then_one k (demands_one k) (λ m placed.
    let P : Kept → Type 0 = λ n. AreKept n.world entry n.kept in
    gives_one m (link_once entry m (subst P (demands_given k m placed).0 (are_kept_all entry world k kept)) (demands_given k m placed).1)))

some_cause : (a b : Cause) (found : Option Cause) → found ≡ Some a → found ≡ Some b → a ≡ b
some_cause a b found e f = let both : Some a ≡ Some b = sym e ∙ f in cc

packages_one : IsOneSchedule → IsOne LinksPackages
packages_one schedule l =
    then_one l (then_one l (demands_one l) (λ m few. demands_one m)) (λ m within.
    then_one m (finds_one m (λ a b e f. some_cause a b _ e f)) (λ n merged.
    then_one n (schedule n) (λ s scheduled.
    then_one s (demands_one s) (λ t none.
    then_one t.program (demands_one t.program) (λ o known. world_one o.entry o.world)))))

loads_packages_one : IsOneLoad → (files : Contents) → IsOne (LoadsPackages files)
loads_packages_one one files opts =
    then_one opts (demands_one opts) (λ o supported.
    then_one o (told_one files o) (λ told is_told. puts_one program_with told (one (load_inputs told) files)))

pub one_link : IsOneLoad → IsOneSchedule → IsOneLink
one_link one schedule files opts = then_one opts (loads_packages_one one files opts) (λ l loaded. packages_one schedule l)

pub one_first : IsOneLoad → IsOneSchedule → IsOneFirst
one_first one schedule files opts None None x y = refl
one_first one schedule files opts None (Some b) x y = let same = one_link one schedule files opts (Ok x.0) (Err b) x.1 y in absurd (clash same)
  where
    clash : (let r : Result Linked Cause = Ok x.0 in r) ≡ Err b → ⊥
    clash e = cc
one_first one schedule files opts (Some a) None x y = let same = one_link one schedule files opts (Ok y.0) (Err a) y.1 x in absurd (clash same)
  where
    clash : (let r : Result Linked Cause = Ok y.0 in r) ≡ Err a → ⊥
    clash e = cc
one_first one schedule files opts (Some a) (Some b) x y = let same = one_link one schedule files opts (Err a) (Err b) x y in cc

pub one_image : IsOneLoad → IsOneSchedule → IsOneImage
one_image one schedule files opts a b x y =
    let same = one_link one schedule files opts (Ok x.0) (Ok y.0) x.1 y.1 in
    sym x.2 ∙ ap (λ l. l.image) (same_linked x.0 y.0 same) ∙ y.2
  where
    same_linked : (m n : Linked) → (let r : Result Linked Cause = Ok m in r) ≡ Ok n → m ≡ n
    same_linked m n e = cc
