-- Chunks of fields that are written one after the other, as far as they have come.
use Rattle.std.proofs.Common.{◌≡◌, ℕ, ℤ, ◌+◌, ◌<◌, ◌≤◌, List, [], ◌∷◌, ◌++◌, length, get_or, refl, sym, ap, ◌∙◌, subst, arith}
use Rattle.std.specs.Prelude.{All, ◌==◌, false, suc}
use Rattle.std.proofs.lemmas.List.{append_assoc, append-nil, length-append, get_or_append_left}
use Rattle.std.proofs.lemmas.List.Elements.{All-append}
use Rattle.glk_reloc.specs.declared.fields.Field.{Field}
use Rattle.glk_reloc.specs.declared.fields.Overflow.{Overflow}
use Rattle.glk_reloc.specs.Fields.{AreApart, HasRoom, end_of, IsFirstOverflow, IsOutside}
use Rattle.glk_reloc.specs.Patched.{IsPatched, SameOutside}
use Rattle.glk_reloc.proofs.Patching.{all_left, all_right, first_left, first_right}
use Rattle.glk_reloc.proofs.Joined.{joined_patched, patched_nothing, apart_right}

-- of all fields those before the rest are written, and have room for their values
pub record IsPatchedTo (all rest : List Field) (count : ℕ) (old now : List ℕ) : Type 0 where
  pub done : List Field
  pub all_are : all ≡ done ++ rest
  pub count_is : count ≡ length done
  pub have_room : All HasRoom done
  pub patched : IsPatched 0 old now done

pub to_none : (all : List Field) (old : List ℕ) → IsPatchedTo all all 0 old old
to_none all old = record {
  done = [];
  all_are = refl;
  count_is = refl;
  have_room = λ k d lt. let P : Type 0 = HasRoom (get_or {A = Field} [] k d) in let x : k < 0 = lt in let out : P = absurd (omega arith) in out;
  patched = patched_nothing 0 old;
}

apart_left : (fields more : List Field) → AreApart (fields ++ more) → AreApart fields
apart_left fields more apart i j d low high =
    let long = length-append fields more in
    let i_lt : i < length fields = omega arith in
    let left : get_or (fields ++ more) i d ≡ get_or fields i d = get_or_append_left fields more d i i_lt in
    let right : get_or (fields ++ more) j d ≡ get_or fields j d = get_or_append_left fields more d j high in
    let P : Field → Type 0 = λ x. end_of x ≤ (get_or fields j d).at in
    let Q : Field → Type 0 = λ x. end_of (get_or (fields ++ more) i d) ≤ x.at in
    subst P left (subst Q right (apart i j d low (omega arith)))

-- the next chunk is among all fields
module _ (all rest chunk later : List Field) (count : ℕ) (old now : List ℕ) (so_far : IsPatchedTo all rest count old now) (next : rest ≡ chunk ++ later) where
  pub all_with_chunk : all ≡ so_far.done ++ (chunk ++ later)
  all_with_chunk = so_far.all_are ∙ ap (λ l. so_far.done ++ l) next

  pub chunk_all : (P : Field → Type 0) → All P all → All P chunk
  chunk_all P h =
      let Q : List Field → Type 0 = λ l. All P l in
      all_left P chunk later (all_right P so_far.done (chunk ++ later) (subst Q all_with_chunk h))

  pub chunk_apart : AreApart all → AreApart chunk
  chunk_apart h = apart_left chunk later (apart_right so_far.done (chunk ++ later) (subst AreApart all_with_chunk h))

  pub chunk_count : count + length chunk ≤ length all
  chunk_count =
      let a = ap length all_with_chunk in
      let b = length-append so_far.done (chunk ++ later) in
      let c = length-append chunk later in
      let d = so_far.count_is in
      omega arith

  with_chunk : all ≡ (so_far.done ++ chunk) ++ later
  with_chunk = all_with_chunk ∙ sym (append_assoc so_far.done chunk later)

  pub to_next : (new : List ℕ) (long : ℕ) → long ≡ length chunk → AreApart all → All HasRoom chunk → IsPatched 0 now new chunk
      → IsPatchedTo all later (count + long) old new
  to_next new long long_is apart room written = record {
    done = so_far.done ++ chunk;
    all_are = with_chunk;
    count_is = ap (λ n. n + long) so_far.count_is ∙ (ap (λ n. length so_far.done + n) long_is ∙ sym (length-append so_far.done chunk));
    have_room = All-append HasRoom so_far.done chunk so_far.have_room room;
    patched = joined_patched 0 old now new so_far.done chunk
        (apart_left (so_far.done ++ chunk) later (subst AreApart with_chunk apart)) so_far.patched written;
  }

  pub first_of_all : (o : Overflow) (v : ℤ) → v ≡ o.value → IsFirstOverflow chunk o
      → IsFirstOverflow all (record { index = count + o.index; value = v })
  first_of_all o v v_is h =
      let found : Overflow = record { index = count + o.index; value = v } in
      let P : List Field → Type 0 = λ l. IsFirstOverflow l found in
      let sum : o.index + length so_far.done ≡ count + o.index = let e = so_far.count_is in omega arith in
      let Q : ℕ → Type 0 = λ n. IsFirstOverflow (so_far.done ++ chunk) (record { index = n; value = v }) in
      let V : ℤ → Type 0 = λ x. IsFirstOverflow (so_far.done ++ chunk) (record { index = o.index + length so_far.done; value = x }) in
      subst P (sym with_chunk)
      (first_left (so_far.done ++ chunk) later found
      (subst Q sum (subst V (sym v_is) (first_right so_far.done chunk o so_far.have_room h))))

  pub outside_chunk : (new : List ℕ) → SameOutside 0 now new chunk → SameOutside 0 old new all
  outside_chunk new written = record {
    size = written.size ∙ so_far.patched.outside.size;
    same = λ p out.
        let Q : List Field → Type 0 = λ l. All (IsOutside (0 + p)) l in
        let parts : All (IsOutside (0 + p)) (so_far.done ++ (chunk ++ later)) = subst Q all_with_chunk out in
        written.same p (all_left (IsOutside (0 + p)) chunk later (all_right (IsOutside (0 + p)) so_far.done (chunk ++ later) parts))
        ∙ so_far.patched.outside.same p (all_left (IsOutside (0 + p)) so_far.done (chunk ++ later) parts);
  }

-- so far nothing else has changed
pub outside_so_far : (all rest : List Field) (count : ℕ) (old now : List ℕ) → IsPatchedTo all rest count old now → SameOutside 0 old now all
outside_so_far all rest count old now h = record {
  size = h.patched.outside.size;
  same = λ p out.
      let Q : List Field → Type 0 = λ l. All (IsOutside (0 + p)) l in
      h.patched.outside.same p (all_left (IsOutside (0 + p)) h.done rest (subst Q h.all_are out));
}

-- where no field is left, all are written
module _ (all rest : List Field) (count : ℕ) (old now : List ℕ) (so_far : IsPatchedTo all rest count old now) (none : rest ≡ []) where
  done_all : so_far.done ≡ all
  done_all = sym (so_far.all_are ∙ ap (λ l. so_far.done ++ l) none ∙ append-nil so_far.done)

  pub all_room : All HasRoom all
  all_room = let P : List Field → Type 0 = λ l. All HasRoom l in subst P done_all so_far.have_room

  pub all_patched : IsPatched 0 old now all
  all_patched = let P : List Field → Type 0 = λ l. IsPatched 0 old now l in subst P done_all so_far.patched

-- a chunk that is not empty leaves fewer
pub some_left : (rest chunk later : List Field) → rest ≡ chunk ++ later → 0 < length chunk → length later < length rest
some_left rest chunk later next some =
    let a = ap length next in
    let b = length-append chunk later in
    omega arith

pub not_none : (chunk : List Field) (n : ℕ) → n ≡ length chunk → (n == 0) ≡ false → 0 < length chunk
not_none [] n long h = let P : ℕ → Type 0 = λ k. (k == 0) ≡ false in let zero : (0 == 0) ≡ false = subst P long h in cc
not_none (f ∷ fs) n long h = let e : length (f ∷ fs) ≡ suc (length fs) = refl in omega arith

-- an empty chunk is the last
pub none_left : (rest chunk later : List Field) → rest ≡ chunk ++ later → (chunk ≡ [] → later ≡ []) → length chunk ≡ 0 → rest ≡ []
none_left rest [] later next last h = next ∙ last refl
none_left rest (f ∷ fs) later next last h = cc
