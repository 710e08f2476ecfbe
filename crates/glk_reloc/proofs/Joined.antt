-- Patched parts, and chunks of fields that are put together.
use Rattle.std.proofs.Common.{◌≡◌, ℕ, ◌+◌, ◌-◌, ◌<◌, ◌≤◌, inl, inr, ⊎_elim, List, [], ◌∷◌, ◌++◌, length, drop, get_or, refl, sym, ap, ◌∙◌, subst, arith}
use Rattle.std.specs.Prelude.{All, Contains, Ok, Err, slice_range}
use Rattle.std.proofs.lemmas.List.{get_or-take, get_or-drop, get_or_append_left, get_or-append_right, get_or_default, length-append, length-take-le, length-drop, get_or_past, ext_get_or}
use Rattle.std.proofs.lemmas.List.Elements.{All-append, All-contains, All-weaker, Contains-append_left, Contains-append_right, Contains-append_cases, Contains-get_or}
use Rattle.glk_reloc.specs.declared.fields.Field.{Field}
use Rattle.glk_reloc.specs.Fields.{AreApart, IsOutside, IsWithin, HasRoom, end_of}
use Rattle.glk_reloc.specs.Patched.{IsPatched}
use Rattle.glk_reloc.specs.Parts.{IsPartPatched, IsUnpatchedSame, IsJoinedPatched, no_chunk, next_chunk, fields_of, AreChunksPatched, IsJoinedAnswer, IsEarlyAnswer}
use mathlib.Core.Logic.{dite}
use native.Mathlib.Decide.{dec_lt}
use Rattle.glk_reloc.proofs.Patching.{all_left, all_right, first_left, first_right}

-- a part of bytes, by index
slice-length : (bytes : List ℕ) (a b : ℕ) → a ≤ b → b ≤ length bytes → length (slice_range bytes a b) ≡ b - a
slice-length bytes a b order room = length-take-le (b - a) (drop a bytes) (let d = length-drop a bytes in omega arith)

slice-at : (bytes : List ℕ) (a b p : ℕ) → p < b - a → get_or (slice_range bytes a b) p 0 ≡ get_or bytes (a + p) 0
slice-at bytes a b p low = get_or-take (b - a) (drop a bytes) p 0 low ∙ get_or-drop a bytes p 0

pub unpatched_same : IsUnpatchedSame
unpatched_same base old new h = ext_get_or 0 new old h.outside.size (λ p lt. h.outside.same p (λ k d in'. absurd (omega arith)))

pub part_patched : IsPartPatched
part_patched base a b old new before within after order room cut h =
    let size = h.outside.size in
    let long : length (slice_range old a b) ≡ b - a = slice-length old a b order room in
    let long' : length (slice_range new a b) ≡ b - a = slice-length new a b order (omega arith) in
    let outside : (p : ℕ) → p < b - a → All (IsOutside (base + a + p)) within → All (IsOutside (base + (a + p))) (before ++ (within ++ after)) =
    λ p lt all.
    let At : ℕ → Type 0 = λ n. All (IsOutside n) within in
    let e : base + a + p ≡ base + (a + p) = omega arith in
    All-append (IsOutside (base + (a + p))) before (within ++ after)
    (All-weaker (λ f. end_of f ≤ base + a) (IsOutside (base + (a + p))) (λ f le. inr (omega arith)) before cut.first)
    (All-append (IsOutside (base + (a + p))) within after (subst At e all)
    (All-weaker (λ f. base + b ≤ f.at) (IsOutside (base + (a + p))) (λ f le. inl (omega arith)) after cut.last)) in
    record {
      outside = record {
        size = long' ∙ sym long;
        same = λ p all.
            dite (dec_lt p (b - a))
            (λ lt. slice-at new a b p lt ∙ (h.outside.same (a + p) (outside p lt all) ∙ sym (slice-at old a b p lt)))
            (λ ge. get_or_past (slice_range new a b) p 0 (omega arith) ∙ sym (get_or_past (slice_range old a b) p 0 (omega arith)));
      };
      inside = λ f i p in' lt e.
          let here : IsWithin (base + a) (base + b) f = All-contains (IsWithin (base + a) (base + b)) within f cut.inside in' in
          let to : end_of f ≤ base + b = here.1 in
          slice-at new a b p (omega arith)
          ∙ h.inside f i (a + p) (Contains-append_right before (within ++ after) f (Contains-append_left within after f in')) lt (omega arith);
    }

-- fields of a list end before those after them begin
across : (fields more : List Field) → AreApart (fields ++ more) → (f g : Field) → Contains fields f → Contains more g → end_of f ≤ g.at
across fields more apart f g in' after =
    let n : ℕ = length fields in
    let long = length-append fields more in
    let left : get_or (fields ++ more) in'.0 f ≡ f = get_or_append_left fields more f in'.0 in'.1 ∙ in'.2 in
    let e : n + after.0 - n ≡ after.0 = omega arith in
    let right : get_or (fields ++ more) (n + after.0) f ≡ g =
    get_or-append_right fields more n (n + after.0) f refl (omega arith) ∙ (ap (λ k. get_or more k f) e ∙ (get_or_default more after.0 f g after.1 ∙ after.2)) in
    let low = in'.1 in
    let high = after.1 in
    let P : Field → Type 0 = λ x. end_of x ≤ g.at in
    let Q : Field → Type 0 = λ x. end_of (get_or (fields ++ more) in'.0 f) ≤ x.at in
    subst P left (subst Q right (apart in'.0 (n + after.0) f (omega arith) (omega arith)))

pub joined_patched : IsJoinedPatched
joined_patched base old mid new fields more apart first second = record {
  outside = record {
    size = second.outside.size ∙ first.outside.size;
    same = λ p all.
        second.outside.same p (all_right (IsOutside (base + p)) fields more all)
        ∙ first.outside.same p (all_left (IsOutside (base + p)) fields more all);
  };
  inside = λ f i p in' lt e.
      ⊎_elim
      (λ (c : Contains fields f).
      let out : All (IsOutside (base + p)) more =
      λ k d low. let ends = across fields more apart f (get_or more k d) c (Contains-get_or more k d low) in inl (omega arith) in
      second.outside.same p out ∙ first.inside f i p c lt e)
      (λ (c : Contains more f). second.inside f i p c lt e)
      (Contains-append_cases fields more f in');
}

pub apart_right : (fields more : List Field) → AreApart (fields ++ more) → AreApart more
apart_right fields more apart i j d low high =
    let n : ℕ = length fields in
    let long = length-append fields more in
    let left : get_or (fields ++ more) (n + i) d ≡ get_or more i d =
    get_or-append_right fields more n (n + i) d refl (omega arith) ∙ (let e : n + i - n ≡ i = omega arith in ap (λ k. get_or more k d) e) in
    let right : get_or (fields ++ more) (n + j) d ≡ get_or more j d =
    get_or-append_right fields more n (n + j) d refl (omega arith) ∙ (let e : n + j - n ≡ j = omega arith in ap (λ k. get_or more k d) e) in
    let P : Field → Type 0 = λ x. end_of x ≤ (get_or more j d).at in
    let Q : Field → Type 0 = λ x. end_of (get_or (fields ++ more) (n + i) d) ≤ x.at in
    subst P left (subst Q right (apart (n + i) (n + j) d (omega arith) (omega arith)))

pub patched_nothing : (base : ℕ) (bytes : List ℕ) → IsPatched base bytes bytes []
patched_nothing base bytes = record {
  outside = record { size = refl; same = λ p all. refl };
  inside = λ f i p in' lt e. let h = in'.1 in absurd (omega arith);
}

pub chunks_patched : AreChunksPatched
chunks_patched base old new [] apart (no_chunk bytes) = patched_nothing base old
chunks_patched base old new (chunk ∷ chunks) apart (next_chunk from mid to c cs first rest) =
    joined_patched base old mid new chunk (fields_of chunks) apart first
    (chunks_patched base mid new chunks (apart_right chunk (fields_of chunks) apart) rest)

pub joined_answer : IsJoinedAnswer
joined_answer fields more (Err o) b x y = first_left fields more o x
joined_answer fields more (Ok u) (Err o) x y = first_right fields more o x y
joined_answer fields more (Ok u) (Ok v) x y = All-append HasRoom fields more x y

pub early_answer : IsEarlyAnswer
early_answer fields more o x = first_left fields more o x
