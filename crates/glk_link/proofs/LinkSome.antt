-- There is an answer of each link: an image, or a first refusal.
use Rattle.std.proofs.Common.{◌≡◌, ◌<◌, ◌≤◌, ◌⊎◌, ℕ, List, [], ◌∷◌, All, length, Option, Some, None, Ok, Err, inl, inr, refl, sym, ap, ◌∙◌, subst, arith}
use Rattle.std.specs.Prelude.{Result}
use Rattle.std.specs.Option.{option_map}
use Rattle.std.specs.List.{Contains}
use Rattle.glk_cause.specs.declared.cause.Cause.{Cause}
use Rattle.glk_cause.specs.Chain.{IsSomeAt}
use Rattle.glk_cause.proofs.ChainLaws.{then_some, demands_some, gives_some, finds_some, then_given, demands_given, gives_given, finds_given}
use Rattle.glk_arena.specs.Stored.{IsWhole}
use Rattle.glk_arena.specs.Config.{IsSomeConfig}
use Rattle.glk_arena.specs.Waves.{IsSomeLoad}
use Rattle.glk_arena.specs.World.{Package, objects_of, file_bytes}
use Rattle.glk_io.specs.Contents.{Contents}
use Rattle.glk_link.specs.declared.options.LinkOptions.{LinkOptions}
use Rattle.glk_link.specs.Options.{AsksUnbuilt}
use Rattle.glk_link.specs.Names.{reserved_names}
use Rattle.glk_obj.specs.Numbers.{index_of, kind_of, standard_number}
use Rattle.glk_obj.specs.declared.kinds.RelocKind.{RelocKind}
use Rattle.glk_obj.specs.declared.kinds.RelocKind.TheVariants.{Call, PcRel}
use Rattle.glk_obj.proofs.KindNumbers.{index_injective}
use Rattle.glk_init_lists.specs.Schedules.{Scheduled, IsSomeSchedule}
use Rattle.glk_init_lists.proofs.Steps.{scheduled_program}
use Rattle.glk_keys.specs.Clashes.{first_clash}
use Rattle.glk_keys.specs.Rows.{row_count, row_limit}
use Rattle.glk_keys.specs.Programs.{Program}
use Rattle.glk_link.specs.Merges.{clash_refusal, IsKnownConfig}
use Rattle.glk_link.specs.World.{AreObjects, byte_count, rows, IsDefinition, reloc_count}
use Rattle.glk_link.specs.Plans.{linked_bytes, IsFitting, AreChosen}
use Rattle.glk_link.specs.Reach.{IsEntry, AreKept, Misses}
use Rattle.glk_link.specs.Refusals.{IsFirstMiss, undefined_call}
use Rattle.glk_link.specs.Built.{IsBuilt}
use Rattle.glk_link.specs.Image.{IsStart}
use Rattle.glk_link.specs.Passes.{Kept, Linked, IsWithinLimits, IsMerged, HasNoTasks, HasKnownConfig, IsReach, Reaches, IsUndefined, IsLinkOf, Keeps, LinksWorld, LinksPackages, LoadsPackages, IsLink, FirstRefusal, load_inputs, program_with, IsSomeFirst}
use Rattle.std.proofs.lemmas.Bool.{cases_order}
use Rattle.glk_package.proofs.Decided.{IsDecided, all_of, negated, at_most, if_same, same_bytes}
use Rattle.glk_link.proofs.Decided.{both, equal, IsLeast, first_below, all_in, contains}
use Rattle.glk_link.proofs.PlainDecided.{has_entry, plain}
use Rattle.glk_link.proofs.CallDecided.{misses, is_built}
use Rattle.glk_link.proofs.Derivations.{IsReached-entry}
use Rattle.glk_link.proofs.Search.{reached_definition}
use Rattle.glk_link.proofs.KeptSome.{kept_some, start_some}
use Rattle.glk_link.proofs.ImageSome.{image_some}
use Rattle.glk_link.proofs.WorldSteps.{fitting}
use Rattle.glk_link.proofs.ConfigSome.{puts_some, told_some}
use Rattle.glk_link.proofs.ToldLaws.{puts_given}
use Rattle.glk_link.proofs.LoadedWhole.{load_whole}

-- The limits.

within_some : (l : Program) → IsSomeAt IsWithinLimits l
within_some l =
    then_some l (demands_some l (at_most (row_count l) row_limit)) (λ m few. demands_some m (at_most (file_bytes m.world) linked_bytes))

-- what passes the limits is what it was, and short
record IsWithin (l m : Program) : Type 0 where
  same : l ≡ m
  short : file_bytes m.world ≤ linked_bytes

are_within : (l m : Program) → IsWithinLimits l (Ok m) → IsWithin l m
are_within l m h =
    let t = then_given l m h in
    let rows_few = demands_given l t.0 t.1 in
    let small = demands_given t.0 m t.2 in
    record { same = rows_few.0 ∙ small.0; short = small.1 }

-- Clashes, tasks, and the configuration.

merged_some : (l : Program) → IsSomeAt IsMerged l
merged_some l = finds_some l (by (option_map (clash_refusal l) (first_clash l)))
  where
    by : (found : Option Cause) → ((refusal : Cause) × (found ≡ Some refusal)) ⊎ ((refusal : Cause) → found ≡ Some refusal → ⊥)
    by (Some refusal) = inl (refusal, refl)
    by None = inr (λ refusal e. cc)

empty_or : (xs : List ℕ) → IsDecided (xs ≡ [])
empty_or [] = inl refl
empty_or (x ∷ xs) = inr (λ e. cc)

no_tasks_some : (s : Scheduled) → IsSomeAt HasNoTasks s
no_tasks_some s = demands_some s (all_of (s.main ≡ []) (s.runtime ≡ []) (empty_or s.main) (empty_or s.runtime))

same_kind : (a : Option RelocKind) (kind : RelocKind) → ((k : RelocKind) → IsDecided (k ≡ kind)) → IsDecided (a ≡ Some kind)
same_kind None kind each = inr (λ e. cc)
same_kind (Some k) kind each = by (each k)
  where
    by : IsDecided (k ≡ kind) → IsDecided ((let o : Option RelocKind = Some k in o) ≡ Some kind)
    by (inl e) = inl (ap Some e)
    by (inr n) = inr (λ e. n (same k kind e))
      where
        same : (x y : RelocKind) → (let o : Option RelocKind = Some x in o) ≡ Some y → x ≡ y
        same x y is = cc

kinds_equal : (a b : RelocKind) → IsDecided (a ≡ b)
kinds_equal a b = if_same (index_of a ≡ index_of b) (a ≡ b) (index_injective a b) (ap index_of) (equal (index_of a) (index_of b))

config_some : (l : Program) → IsSomeAt HasKnownConfig l
config_some l =
    let A : Type 0 = kind_of l.numbers (standard_number Call) ≡ Some Call in
    let B : Type 0 = kind_of l.numbers (standard_number PcRel) ≡ Some PcRel in
    let C : Type 0 = length l.builtins ≡ 0 in
    demands_some l (if_same (A × (B × C)) (IsKnownConfig l)
    (λ h. record { call = h.0; pc_relative = h.1.0; no_builtin = h.1.1 }) (λ h. (h.call, (h.pc_relative, h.no_builtin)))
    (all_of A (B × C) (same_kind (kind_of l.numbers (standard_number Call)) Call (λ k. kinds_equal k Call))
    (all_of B C (same_kind (kind_of l.numbers (standard_number PcRel)) PcRel (λ k. kinds_equal k PcRel)) (equal (length l.builtins) 0))))

-- What is kept.

reaches_some : (entry : List ℕ) (world : List Package) → AreObjects (objects_of world) → IsSomeAt (Reaches entry) world
reaches_some entry world objects =
    then_some world (demands_some world (has_entry world entry)) (λ w has.
    let found = demands_given world w has in
    gives_some w (reach_at w (subst (λ (v : List Package). AreObjects (objects_of v)) found.0 objects) found.1))
  where
    reach_at : (w : List Package) → AreObjects (objects_of w) → (i : ℕ) × IsEntry w entry i → (k : Kept) × IsReach entry w k
    reach_at w are found =
        let start = start_some w entry found in
        let kept = kept_some w entry are in
        let k : Kept = record { world = w; start = start.0; kept = kept.0 } in
        (k, record { packages = refl; start = start.1; kept = kept.1 })

-- what is kept of a world of objects that is short
record IsKeptOf (entry : List ℕ) (k : Kept) : Type 0 where
  objects : AreObjects (objects_of k.world)
  small : byte_count (objects_of k.world) ≤ linked_bytes
  start : IsStart k.world entry k.start
  kept : AreKept k.world entry k.kept

kept_of_world : (entry : List ℕ) (world : List Package) (k : Kept) → AreObjects (objects_of world) → byte_count (objects_of world) ≤ linked_bytes
    → Reaches entry world (Ok k) → IsKeptOf entry k
kept_of_world entry world k objects small h =
    let t = then_given world k h in
    let is = gives_given t.0 k t.2 in
    let same : world ≡ k.world = (demands_given world t.0 t.1).0 ∙ sym is.packages in
    record {
      objects = subst (λ (w : List Package). AreObjects (objects_of w)) same objects;
      small = subst (λ (w : List Package). byte_count (objects_of w) ≤ linked_bytes) same small;
      start = subst (λ (w : List Package). IsStart w entry k.start) (sym is.packages) is.start;
      kept = subst (λ (w : List Package). AreKept w entry k.kept) (sym is.packages) is.kept;
    }

kept_definition : (entry : List ℕ) (k : Kept) → IsKeptOf entry k → All (IsDefinition k.world) k.kept
kept_definition entry k is j d lt = reached_definition k.world entry is.objects _ (is.kept.sound j d lt)

-- The first call of what is missing.

module _ (entry : List ℕ) (k : Kept) (is : IsKeptOf entry k) where
  -- a kept definition that calls what is missing
  abbrev HasMiss : ℕ → Type 0
  HasMiss i = Contains k.kept i × IsLeast (λ n. Misses k.world i n) (reloc_count k.world i)

  kept_row : (i : ℕ) → Contains k.kept i → i < rows (objects_of k.world)
  kept_row i c = subst (λ (n : ℕ). n < rows (objects_of k.world)) c.2 (kept_definition entry k is c.0 i c.1).row

  has_miss : (i : ℕ) → IsDecided (HasMiss i)
  has_miss i =
      both (Contains k.kept i) (IsLeast (λ n. Misses k.world i n) (reloc_count k.world i)) (contains equal k.kept i)
      (λ c. or_none (first_below (λ n. Misses k.world i n) (reloc_count k.world i) (λ n within. misses k.world i n)))
    where
      or_none : IsLeast (λ n. Misses k.world i n) (reloc_count k.world i) ⊎ ((n : ℕ) → n < reloc_count k.world i → Misses k.world i n → ⊥)
          → IsDecided (IsLeast (λ n. Misses k.world i n) (reloc_count k.world i))
      or_none (inl f) = inl f
      or_none (inr none) = inr (λ f. none f.number f.below f.holds)

  undefined_some : ((refusal : Cause) × IsUndefined k refusal) ⊎ ((refusal : Cause) → IsUndefined k refusal → ⊥)
  undefined_some = by_search (first_below HasMiss (rows (objects_of k.world)) (λ i lt. has_miss i))
    where
      own_miss : (j m : ℕ) → Contains k.kept j → Misses k.world j m → HasMiss j
      own_miss j m c miss = elim (first_below (λ n. Misses k.world j n) (reloc_count k.world j) (λ n within. misses k.world j n)) [
        | inl f ↦ (c, f)
        | inr none ↦ absurd (none m miss.within miss)
      ]

      by_search : IsLeast HasMiss (rows (objects_of k.world)) ⊎ ((i : ℕ) → i < rows (objects_of k.world) → HasMiss i → ⊥)
          → ((refusal : Cause) × IsUndefined k refusal) ⊎ ((refusal : Cause) → IsUndefined k refusal → ⊥)
      by_search (inl f) =
          let i : ℕ = f.number in
          let n = f.holds.1 in
          let least : (j m : ℕ) → Contains k.kept j → Misses k.world j m → (i < j) ⊎ ((i ≡ j) × (n.number ≤ m)) = λ j m c miss. elim (cases_order i j) [
            | inl same ↦ inr (same, not_before m (subst (λ (r : ℕ). Misses k.world r m) (sym same) miss))
            | inr (inl below) ↦ inl below
            | inr (inr above) ↦ absurd (f.least j above (own_miss j m c miss))
          ] in
          let first : IsFirstMiss k.world (Contains k.kept) i n.number = record { is_kept = f.holds.0; misses = n.holds; least = least } in
          inl (undefined_call k.world i n.number, record { row = i; index = n.number; first = first; refusal_is = refl })
        where
          not_most : (a b : ℕ) → (a ≤ b → ⊥) → b < a
          not_most a b not_le = elim (cases_order a b) [
            | inl same ↦ absurd (not_le (omega (arith, same)))
            | inr (inl below) ↦ absurd (not_le (omega (arith, below)))
            | inr (inr above) ↦ above
          ]

          not_before : (m : ℕ) → Misses k.world f.number m → f.holds.1.number ≤ m
          not_before m miss = elim (at_most f.holds.1.number m) [
            | inl le ↦ le
            | inr above ↦ absurd (f.holds.1.least m (omega (arith, not_most f.holds.1.number m above)) miss)
          ]
      by_search (inr none) = inr (λ refusal u. none u.row (kept_row u.row u.first.is_kept) (own_miss u.row u.index u.first.is_kept u.first.misses))

-- The image.

link_of : (entry : List ℕ) (k : Kept) → IsKeptOf entry k → All (IsBuilt k.world) k.kept → (linked : Linked) × IsLinkOf k linked
link_of entry k is built =
    let chosen : AreChosen k.world k.kept = record {
      objects = is.objects;
      small = is.small;
      rising = is.kept.rising;
      range = kept_definition entry k is;
      built = built;
    } in
    let image = image_some k.world k.kept k.start chosen (is.kept.whole k.start (IsReached-entry k.start is.start.is_entry)) in
    let linked : Linked = record { world = k.world; kept = k.kept; image = image.0 } in
    (linked, record { packages = refl; kept = refl; image = image.1 })

-- The passes over packages.

keeps_some : (entry : List ℕ) (world : List Package) → AreObjects (objects_of world) → byte_count (objects_of world) ≤ linked_bytes → IsSomeAt (Keeps entry) world
keeps_some entry world objects small =
    then_some world (demands_some world (plain world)) (λ u is_plain.
    let same : world ≡ u = (demands_given world u is_plain).0 in
    let are = subst (λ (w : List Package). AreObjects (objects_of w)) same objects in
    let few : byte_count (objects_of u) ≤ linked_bytes = subst (λ (w : List Package). byte_count (objects_of w) ≤ linked_bytes) same small in
    then_some u (reaches_some entry u are) (λ k reached. finds_some k (undefined_some entry k (kept_of_world entry u k are few reached))))

kept_of_keeps : (entry : List ℕ) (world : List Package) (k : Kept) → AreObjects (objects_of world) → byte_count (objects_of world) ≤ linked_bytes
    → Keeps entry world (Ok k) → IsKeptOf entry k
kept_of_keeps entry world k objects small h =
    let is_plain = then_given world k h in
    let same : world ≡ is_plain.0 = (demands_given world is_plain.0 is_plain.1).0 in
    let are = subst (λ (w : List Package). AreObjects (objects_of w)) same objects in
    let few : byte_count (objects_of is_plain.0) ≤ linked_bytes = subst (λ (w : List Package). byte_count (objects_of w) ≤ linked_bytes) same small in
    let reached = then_given is_plain.0 k is_plain.2 in
    subst (λ (n : Kept). IsKeptOf entry n) (finds_given reached.0 k reached.2) (kept_of_world entry is_plain.0 reached.0 are few reached.1)

world_some : (entry : List ℕ) (world : List Package) → AreObjects (objects_of world) → byte_count (objects_of world) ≤ linked_bytes → IsSomeAt (LinksWorld entry) world
world_some entry world objects small =
    then_some world (keeps_some entry world objects small) (λ k keeps.
    then_some k (demands_some k (all_in (IsBuilt k.world) (is_built k.world) k.kept)) (λ m placed.
    let is = subst (λ (n : Kept). IsKeptOf entry n) (demands_given k m placed).0 (kept_of_keeps entry world k objects small keeps) in
    gives_some m (link_of entry m is (demands_given k m placed).1)))

pub packages_some : IsSomeSchedule → (l : Program) → IsFitting l.world → IsSomeAt LinksPackages l
packages_some schedule l fits =
    then_some l (within_some l) (λ m within.
    then_some m (merged_some m) (λ n merged.
    then_some n (schedule n) (λ s scheduled.
    then_some s (no_tasks_some s) (λ t none.
    then_some t.program (config_some t.program) (λ o known.
    let limits = are_within l m within in
    let kept : s.program ≡ t.program = ap (λ (x : Scheduled). x.program) (demands_given s t none).0 in
    let later : m ≡ o = finds_given m n merged ∙ scheduled_program n s scheduled ∙ kept ∙ (demands_given t.program o known).0 in
    let same : l ≡ o = limits.same ∙ later in
    let objects = subst (λ (k : Program). AreObjects (objects_of k.world)) same fits.objects in
    let fit = subst (λ (k : Program). byte_count (objects_of k.world) ≤ file_bytes k.world) same fits.fit in
    let short = subst (λ (k : Program). file_bytes k.world ≤ linked_bytes) later limits.short in
    let small : byte_count (objects_of o.world) ≤ linked_bytes = omega (arith, fit, short) in
    world_some o.entry o.world objects small)))))

-- The passes over options and files.

supported : (opts : LinkOptions) → IsDecided (AsksUnbuilt opts)
supported opts = contains same_bytes reserved_names opts.entry

loads_some : IsSomeConfig → IsSomeLoad → (files : Contents) (opts : LinkOptions) → IsSomeAt (LoadsPackages files) opts
loads_some config some files opts =
    then_some opts (demands_some opts (negated (AsksUnbuilt opts) (supported opts))) (λ o built.
    then_some o (told_some config files o) (λ told is_told. puts_some program_with told (some (load_inputs told) files)))

loaded_whole : (files : Contents) (opts : LinkOptions) (l : Program) → LoadsPackages files opts (Ok l) → All IsWhole l.world
loaded_whole files opts l h =
    let built = then_given opts l h in
    let told = then_given built.0 l built.2 in
    let loaded = puts_given {put = program_with} told.0 l told.2 in
    let same : l.world ≡ loaded.given = ap (λ (k : Program). k.world) loaded.is in
    subst (λ (w : List Package). All IsWhole w) (sym same) (load_whole (load_inputs told.0) files loaded.given loaded.step)

pub some_link : IsSomeConfig → IsSomeLoad → IsSomeSchedule → (files : Contents) (opts : LinkOptions) → (answer : Result Linked Cause) × IsLink files opts answer
some_link config some schedule files opts =
    then_some opts (loads_some config some files opts) (λ l loads. packages_some schedule l (fitting l.world (loaded_whole files opts l loads)))

pub some_first : IsSomeConfig → IsSomeLoad → IsSomeSchedule → IsSomeFirst
some_first config some schedule files opts = first (some_link config some schedule files opts)
  where
    first : (answer : Result Linked Cause) × IsLink files opts answer → (refusal : Option Cause) × FirstRefusal files opts refusal
    first (Ok linked, h) = (None, (linked, h))
    first (Err refusal, h) = (Some refusal, h)
