-- Fields of a part, written one after the other, and parts that are put together.
use Rattle.std.proofs.Common.{◌≡◌, ℕ, ◌+◌, ◌-◌, ◌<◌, ◌≤◌, ⊎_elim, List, [], ◌∷◌, ◌++◌, length, take, drop, get_or, ℤ, refl, sym, ap, ◌∙◌, subst, arith}
use Rattle.std.specs.Prelude.{All, Contains, Result, Ok, Err, slice_index_or}
use Rattle.std.proofs.lemmas.List.{get_or_append_left, get_or-append_right, length-append, length-take-le, append_assoc, take-append-drop, take_more, take_all, drop_more, get_or-take, get_or_default}
use mathlib.Core.Logic.{dite}
use native.Mathlib.Decide.{dec_lt}
use Rattle.std.proofs.lemmas.List.Elements.{All-contains, All-append, All-push, All-take, Contains-push, Contains-push_cases, Contains-append_cases}
use Rattle.byteorder.specs.Numbers.{length-bytes_low_first}
use Rattle.std.specs.Int.{cast_unsigned, w128}
use Rattle.glk_reloc.specs.declared.fields.Field.{Field}
use Rattle.glk_reloc.specs.declared.fields.Overflow.{Overflow}
use Rattle.glk_reloc.specs.Values.{Fits}
use Rattle.glk_reloc.specs.Fields.{field_bytes, AreApart, IsOutside, IsWithin, end_of, HasRoom, IsFirstOverflow}
use Rattle.glk_reloc.specs.Patched.{SameOutside, HoldValues, Patches}
use Rattle.glk_reloc.specs.Halves.{later_by, both_answers}
use Rattle.glk_reloc.proofs.Splices.{spliced, length-spliced, spliced_before, spliced_inside, spliced_after}

pub length-field_bytes : (n : ℕ) (v : ℤ) → length (field_bytes n v) ≡ n
unfolding field_bytes
length-field_bytes n v = length-bytes_low_first 0 n (cast_unsigned w128 v)

-- all of these fields have room and are written
pub record HasPatched (base : ℕ) (old new : List ℕ) (fields : List Field) : Type 0 where
  pub outside : SameOutside base old new fields
  pub room : All HasRoom fields
  pub inside : HoldValues base new fields

-- what holds of all of two lists holds of all of each
pub all_left : {X : Type 0} (P : X → Type 0) (xs ys : List X) → All P (xs ++ ys) → All P xs
all_left P xs ys h = λ k d lt. subst P (get_or_append_left xs ys d k lt) (h k d (omega (arith, length-append xs ys)))

pub all_right : {X : Type 0} (P : X → Type 0) (xs ys : List X) → All P (xs ++ ys) → All P ys
all_right P xs ys h =
    λ k d lt.
    let e : length xs + k - length xs ≡ k = omega arith in
    subst P
    (get_or-append_right xs ys (length xs) (length xs + k) d refl (omega arith) ∙ ap (λ n. get_or ys n d) e)
    (h (length xs + k) d (omega (arith, length-append xs ys)))

-- one field more
module _ (base : ℕ) (old mid : List ℕ) (fields : List Field) (f : Field) (from : base ≤ f.at) (to : end_of f ≤ base + length mid) (earlier : All (λ g. end_of g ≤ f.at) fields) where
  abbrev here : ℕ
  here = f.at - base

  abbrev bytes : List ℕ
  bytes = field_bytes f.size f.value

  long : length bytes ≡ f.size
  long = length-field_bytes f.size f.value

  room_here : here + length bytes ≤ length mid
  room_here = let l = long in omega arith

  abbrev now : List ℕ
  now = spliced mid here bytes

  before_here : (p : ℕ) → base + p < f.at → get_or now p 0 ≡ get_or mid p 0
  before_here p h = spliced_before mid here bytes room_here p (omega arith)

  after_here : (p : ℕ) → end_of f ≤ base + p → get_or now p 0 ≡ get_or mid p 0
  after_here p h = spliced_after mid here bytes room_here p (let l = long in omega arith)

  in_here : (i p : ℕ) → i < f.size → base + p ≡ f.at + i → get_or now p 0 ≡ get_or bytes i 0
  in_here i p h e =
      let q : p ≡ here + i = omega arith in
      ap (λ n. get_or now n 0) q ∙ spliced_inside mid here bytes room_here i (let l = long in omega arith)

  outside_push : SameOutside base old mid fields → SameOutside base old now (fields ++ f ∷ [])
  outside_push h = record {
    size = length-spliced mid here bytes room_here ∙ h.size;
    same = λ p all.
        ⊎_elim (λ (lt : base + p < f.at). before_here p lt) (λ (ge : end_of f ≤ base + p). after_here p ge)
        (All-contains (IsOutside (base + p)) (fields ++ f ∷ []) f all (Contains-push fields f))
        ∙ h.same p (all_left (IsOutside (base + p)) fields (f ∷ []) all);
  }

  inside_push : HoldValues base mid fields → HoldValues base now (fields ++ f ∷ [])
  inside_push h g i p in' lt e =
      ⊎_elim
      (λ (c : Contains fields g).
      let below : end_of g ≤ f.at = All-contains (λ g. end_of g ≤ f.at) fields g earlier c in
      before_here p (omega arith) ∙ h g i p c lt e)
      (λ (same : f ≡ g).
      let P : Field → Type 0 = λ x. i < x.size → base + p ≡ x.at + i → get_or now p 0 ≡ get_or (field_bytes x.size x.value) i 0 in
      subst P same (λ lt' e'. in_here i p lt' e') lt e)
      (Contains-push_cases fields f g in')

  pub patched_push : (new : List ℕ) → new ≡ take here mid ++ bytes ++ drop (here + f.size) mid → HasPatched base old mid fields → HasRoom f → HasPatched base old new (fields ++ f ∷ [])
  patched_push new is h room =
      let same : now ≡ new = ap (λ n. take here mid ++ bytes ++ drop (here + n) mid) long ∙ sym is in
      let P : List ℕ → Type 0 = λ l. HasPatched base old l (fields ++ f ∷ []) in
      subst P same (record {
        outside = outside_push h.outside;
        room = All-push HasRoom fields f h.room room;
        inside = inside_push h.inside;
      })

-- nothing was written yet
pub patched_none : (base : ℕ) (old : List ℕ) → HasPatched base old old []
patched_none base old = record {
  outside = record { size = refl; same = λ p all. refl };
  room = λ k d lt. absurd (omega arith);
  inside = λ f i p in' lt e. let h = in'.1 in absurd (omega arith);
}

-- fields of which the first ones have room, and the next one has none
pub first_at : (fields : List Field) (i : ℕ) (f : Field) (o : Overflow) → i < length fields → slice_index_or fields i f ≡ f → All HasRoom (take i fields) → (HasRoom f → ⊥) → o.index ≡ i → o.value ≡ f.value → IsFirstOverflow fields o
first_at fields i f o lt at room lacks index value = record {
  before = take i fields;
  field = f;
  after = drop (i + 1) fields;
  fields_are =
      sym (take-append-drop i fields)
      ∙ ap (λ l. take i fields ++ l) (drop_more fields i f lt ∙ ap (λ x. x ∷ drop (i + 1) fields) at);
  have_room = room;
  lacks_room = lacks;
  index_is = index ∙ sym (length-take-le i fields (omega arith));
  value_is = value;
}

-- field i of a list, once those before it were written; z is its value as the code has it
module _ (base : ℕ) (old mid : List ℕ) (fields : List Field) (i : ℕ) (d : Field) (lt : i < length fields) (z : ℤ) (same : z ≡ (get_or fields i d).value) where
  abbrev this : Field
  this = get_or fields i d

  earlier_ends : AreApart fields → All (λ g. end_of g ≤ this.at) (take i fields)
  earlier_ends apart k e h =
      let long : length (take i fields) ≡ i = length-take-le i fields (omega arith) in
      let k_lt : k < i = omega arith in
      let P : Field → Type 0 = λ g. end_of g ≤ this.at in
      subst P (sym (get_or-take i fields k e k_lt)) (subst P (get_or_default fields k d e (omega arith)) (apart k i d k_lt lt))

  pub each_more : (new : List ℕ) → AreApart fields → All (IsWithin base (base + length old)) fields → HasPatched base old mid (take i fields)
      → Fits this.kind this.size z → new ≡ take (this.at - base) mid ++ field_bytes this.size z ++ drop (this.at - base + this.size) mid
      → HasPatched base old new (take (i + 1) fields)
  each_more new apart inside h room is =
      let within : IsWithin base (base + length old) this = inside i d lt in
      let size : length mid ≡ length old = h.outside.size in
      let Room : ℤ → Type 0 = λ v. Fits this.kind this.size v in
      let written : new ≡ take (this.at - base) mid ++ field_bytes this.size this.value ++ drop (this.at - base + this.size) mid =
      is ∙ ap (λ v. take (this.at - base) mid ++ field_bytes this.size v ++ drop (this.at - base + this.size) mid) same in
      let P : List Field → Type 0 = λ l. HasPatched base old new l in
      let ends : end_of this ≤ base + length old = within.1 in
      subst P (sym (take_more fields i d lt))
      (patched_push base old mid (take i fields) this within.0 (omega arith) (earlier_ends apart) new written h (subst Room same room))

  pub each_stops : (new : List ℕ) (o : Overflow) → new ≡ mid → HasPatched base old mid (take i fields) → (Fits this.kind this.size z → ⊥)
      → o.index ≡ i → o.value ≡ z → Patches base old new fields (Err o)
  each_stops new o is h lacks index value =
      let Room : ℤ → Type 0 = λ v. Fits this.kind this.size v in
      let P : List ℕ → Type 0 = λ l. SameOutside base old l fields in record {
        outside = subst P (sym is) (record {
          size = h.outside.size;
          same = λ p all. h.outside.same p (All-take (IsOutside (base + p)) i fields all);
        });
        answers = first_at fields i this o lt (get_or_default fields i this d lt) h.room (λ r. lacks (subst Room (sym same) r)) index (value ∙ same);
        inside = tt;
      }

-- all fields are written
pub each_done : (base : ℕ) (old new : List ℕ) (fields : List Field) (i : ℕ) → length fields ≤ i → HasPatched base old new (take i fields) → Patches base old new fields (Ok tt)
each_done base old new fields i le h =
    let P : List Field → Type 0 = λ l. HasPatched base old new l in
    let all : HasPatched base old new fields = subst P (take_all i fields le) h in
    record { outside = all.outside; answers = all.room; inside = all.inside }

-- the first overflow of two lists
module _ (fs gs : List Field) where
  pub first_left : (o : Overflow) → IsFirstOverflow fs o → IsFirstOverflow (fs ++ gs) o
  first_left o h = record {
    before = h.before;
    field = h.field;
    after = h.after ++ gs;
    fields_are = ap (λ x. x ++ gs) h.fields_are ∙ append_assoc h.before (h.field ∷ h.after) gs;
    have_room = h.have_room;
    lacks_room = h.lacks_room;
    index_is = h.index_is;
    value_is = h.value_is;
  }

  pub first_right : (o : Overflow) → All HasRoom fs → IsFirstOverflow gs o → IsFirstOverflow (fs ++ gs) (later_by (length fs) o)
  first_right o room h = record {
    before = fs ++ h.before;
    field = h.field;
    after = h.after;
    fields_are = ap (λ x. fs ++ x) h.fields_are ∙ sym (append_assoc fs h.before (h.field ∷ h.after));
    have_room = All-append HasRoom fs h.before room h.have_room;
    lacks_room = h.lacks_room;
    index_is = let x = h.index_is in omega (arith, length-append fs h.before);
    value_is = h.value_is;
  }

-- two parts
module _ (base : ℕ) (l l' r r' : List ℕ) (fs gs : List Field) (within : All (λ f. end_of f ≤ base + length l) fs) (beyond : All (λ g. base + length l ≤ g.at) gs) where
  outside_halves : SameOutside base l l' fs → SameOutside (base + length l) r r' gs → SameOutside base (l ++ r) (l' ++ r') (fs ++ gs)
  outside_halves a b = record {
    size = let x = a.size in let y = b.size in omega (arith, length-append l r, length-append l' r');
    same = λ p all.
        dite (dec_lt p (length l))
        (λ lt.
        get_or_append_left l' r' 0 p (let x = a.size in omega arith)
        ∙ (a.same p (all_left (IsOutside (base + p)) fs gs all) ∙ sym (get_or_append_left l r 0 p lt)))
        (λ ge.
        let le : length l ≤ p = omega arith in
        let q : ℕ = p - length l in
        let e : base + p ≡ base + length l + q = omega arith in
        let P : ℕ → Type 0 = λ n. All (IsOutside n) gs in
        get_or-append_right l' r' (length l) p 0 a.size le
        ∙ (b.same q (subst P e (all_right (IsOutside (base + p)) fs gs all)) ∙ sym (get_or-append_right l r (length l) p 0 refl le)));
  }

  inside_halves : length l' ≡ length l → HoldValues base l' fs → HoldValues (base + length l) r' gs → HoldValues base (l' ++ r') (fs ++ gs)
  inside_halves size a b f i p in' lt e =
      ⊎_elim
      (λ (c : Contains fs f).
      let below : end_of f ≤ base + length l = All-contains (λ f. end_of f ≤ base + length l) fs f within c in
      get_or_append_left l' r' 0 p (omega arith) ∙ a f i p c lt e)
      (λ (c : Contains gs f).
      let above : base + length l ≤ f.at = All-contains (λ g. base + length l ≤ g.at) gs f beyond c in
      get_or-append_right l' r' (length l) p 0 size (omega arith) ∙ b f i (p - length l) c lt (omega arith))
      (Contains-append_cases fs gs f in')

  pub patches_halves : (a b : Result (Unit {0}) Overflow) → Patches base l l' fs a → Patches (base + length l) r r' gs b → Patches base (l ++ r) (l' ++ r') (fs ++ gs) (both_answers (length fs) a b)
  patches_halves (Err o) b x y = record {
    outside = outside_halves x.outside y.outside;
    answers = first_left fs gs o x.answers;
    inside = tt;
  }
  patches_halves (Ok u) (Err o) x y = record {
    outside = outside_halves x.outside y.outside;
    answers = first_right fs gs o x.answers y.answers;
    inside = tt;
  }
  patches_halves (Ok u) (Ok v) x y = record {
    outside = outside_halves x.outside y.outside;
    answers = All-append HasRoom fs gs x.answers y.answers;
    inside = inside_halves x.outside.size x.inside y.inside;
  }
