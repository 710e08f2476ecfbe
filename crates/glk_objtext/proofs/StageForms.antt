-- How far the lines have come, and the least rule that the next one breaks, by the text form.
use Rattle.std.proofs.Common.{◌≡◌, ◌∙◌, ◌+◌, ◌<◌, ◌≤◌, ℕ, Bool, true, false, not, List, [], ◌∷◌, length, refl, ap, sym, subst, arith, inl, inr, eqb, nat_le, Option, Some, None, Ok, Err}
use Rattle.std.specs.Prelude.{◌⊎◌, ◌&&◌}
use Rattle.std.proofs.lemmas.Bool.{cases_Bool, eqb-true, eqb-false, leb-true, leb-false, and_parts, and_cases, false≢true, true≢false, not-true, not-false}
use Rattle.glk_objtext.specs.Fields.{fields, field_at}
use Rattle.glk_objtext.specs.Forms.{IsOctets}
use Rattle.glk_objtext.specs.Grammar.{at_start, after, line_at, begins_well, is_ordered, has_room, fits_width, is_hash_width, rank_after, part_after, width_after}
use Rattle.glk_objtext.specs.Kinds.{Kind, kind_word, kind_place, kind_sorts, may_follow, may_begin, HasMalformed}
use Rattle.glk_objtext.specs.Kinds.Kind.{object_line, hash_line}
use Rattle.glk_objtext.specs.Rules.{LineFields, SomeLine, IsOfKind, IsPast, HasHashLength, HasOtherLength, MayStand, Rule, rule_number, Breaks, BreaksFirst, IsGoodLine}
use Rattle.glk_objtext.specs.Rules.Rule.{X1, X2, X3, X4, X5, X6, X7, X8}
use Rattle.glk_objtext.specs.Values.{word_of_line}
use Rattle.glk_objtext.specs.Words.{arity, rank}
use Rattle.glk_objtext.specs.declared.line.DefBlock.TheVariants.{Symdef, Hashed64def, Hasheddef, Nonpkgdef}
use Rattle.glk_objtext.specs.declared.line.Line.{Line}
use Rattle.glk_objtext.specs.declared.line.Line.TheVariants.{Header, Import, Package, Source, Symbol, Content, Relocation, Auxiliary, Reference, Flags, Named}
use Rattle.glk_objtext.specs.declared.stage.Part.{Part}
use Rattle.glk_objtext.specs.declared.stage.Part.TheVariants.{Outside}
use Rattle.glk_objtext.specs.declared.stage.Stage.{Stage}
use Rattle.glk_objtext.specs.declared.words.Word.{Word}
use Rattle.glk_objtext.specs.declared.words.Word.TheVariants.{Object, Autolib, Pkg, File, Def, Hash64, Hash, Data, Reloc, Aux, Ndef, Ref, RefFlags, RefName}
use Rattle.glk_objtext.proofs.FieldSplits.{fields_full}
use Rattle.glk_objtext.proofs.KindFacts.{kind_of, word_verdict, kind_only, arity_is, room_is, room_begins}
use Rattle.glk_objtext.proofs.LineForms.{Holds, line_reads}
use Rattle.glk_objtext.proofs.SortForms.{octets_are, same_ok}

-- What the lines above tell of a stage.

-- the part that is open is what the nearest line began
abbrev pub IsPartOf : List LineFields → Part → Type 0
IsPartOf [] part = part ≡ Outside
IsPartOf (fs ∷ above) part = (w : Word) × IsOfKind (kind_of w) fs × (part ≡ part_after w)

-- the length of long hashes is that of each above
abbrev pub IsWidthOf : List LineFields → Option ℕ → Type 0
IsWidthOf above None = (n : ℕ) → ¬ SomeLine (HasHashLength n) above
IsWidthOf above (Some n) = SomeLine (HasHashLength n) above × (¬ SomeLine (HasOtherLength n) above)

pub record IsReached (above : List LineFields) (stage : Stage) : Type 0 where
  pub none : stage.rank ≡ 0 → above ≡ []
  pub some : above ≡ [] → stage.rank ≡ 0
  pub past : (n : ℕ) → n < stage.rank → SomeLine (IsPast n) above
  pub within : (n : ℕ) → SomeLine (IsPast n) above → n < stage.rank
  pub part : IsPartOf above stage.part
  pub width : IsWidthOf above stage.width

pub at_first : IsReached [] at_start
at_first = record {
  none = λ h. refl;
  some = λ h. refl;
  past = λ n h. absurd (omega arith);
  within = λ n h. absurd h;
  part = refl;
  width = λ n h. h;
}

-- Rules 2, 3, 7 and 8 by the stage.

is_object : (w : Word) → (w ≡ Object) ⊎ (((stage : Stage) → begins_well stage w ≡ not (eqb stage.rank 0)) × (¬ (kind_of w ≡ object_line)))
unfolding begins_well
is_object Object = inl refl
is_object Autolib = inr (λ s. refl, λ h. cc)
is_object Pkg = inr (λ s. refl, λ h. cc)
is_object File = inr (λ s. refl, λ h. cc)
is_object Def = inr (λ s. refl, λ h. cc)
is_object Hash64 = inr (λ s. refl, λ h. cc)
is_object Hash = inr (λ s. refl, λ h. cc)
is_object Data = inr (λ s. refl, λ h. cc)
is_object Reloc = inr (λ s. refl, λ h. cc)
is_object Aux = inr (λ s. refl, λ h. cc)
is_object Ndef = inr (λ s. refl, λ h. cc)
is_object Ref = inr (λ s. refl, λ h. cc)
is_object RefFlags = inr (λ s. refl, λ h. cc)
is_object RefName = inr (λ s. refl, λ h. cc)

object_begins : (stage : Stage) → begins_well stage Object ≡ eqb stage.rank 0
unfolding begins_well
object_begins stage = refl

-- whether a rule is broken is as the test says
abbrev Tells : Bool → Type 0 → Type 0
Tells good Broken = ((good ≡ false) → Broken) × ((good ≡ true) → ¬ Broken)

begins_tell : (above : List LineFields) (stage : Stage) (fs : LineFields) (w : Word) → IsReached above stage → IsOfKind (kind_of w) fs → Tells (begins_well stage w) (Breaks above fs X2)
begins_tell above stage fs w at is = elim (is_object w) [
  | inl e ↦
      let object : IsOfKind object_line fs = subst (λ (x : Word). IsOfKind (kind_of x) fs) e is in
      rw e (
        λ h. let other = eqb-false stage.rank 0 (sym (object_begins stage) ∙ h) in inr (λ none. other (at.some none), object),
        λ h b. elim b [
          | inl first ↦ first.1 object
          | inr later ↦ later.0 (at.none (eqb-true stage.rank 0 (sym (object_begins stage) ∙ h)))
        ],
      )
  | inr e ↦
      let other : ¬ IsOfKind object_line fs = λ o. e.1 (sym (kind_only (field_at fs 0) w object_line is o)) in (
        λ h. let first = not-false (eqb stage.rank 0) (sym (e.0 stage) ∙ h) in inl (at.none (eqb-true stage.rank 0 first), other),
        λ h b. elim b [
          | inl first ↦ eqb-false stage.rank 0 (not-true (eqb stage.rank 0) (sym (e.0 stage) ∙ h)) (at.some first.0)
          | inr later ↦ other later.1
        ],
      )
]

-- a word has a place, and a stage that is within it, or it has none
abbrev IsPlacedSo : Word → Type 0
IsPlacedSo w = ((kind_place (kind_of w) ≡ 0) × ((stage : Stage) → is_ordered stage w ≡ true) × ((r : ℕ) → rank_after r w ≡ r))
    ⊎ ((0 < kind_place (kind_of w)) × ((stage : Stage) → is_ordered stage w ≡ nat_le stage.rank (kind_place (kind_of w))) × ((r : ℕ) → rank_after r w ≡ kind_place (kind_of w)))

placed_so : (w : Word) → IsPlacedSo w
unfolding is_ordered rank rank_after
placed_so Object = inr (omega arith, λ s. refl, λ r. refl)
placed_so Autolib = inr (omega arith, λ s. refl, λ r. refl)
placed_so Pkg = inr (omega arith, λ s. refl, λ r. refl)
placed_so File = inr (omega arith, λ s. refl, λ r. refl)
placed_so Def = inr (omega arith, λ s. refl, λ r. refl)
placed_so Hash64 = inr (omega arith, λ s. refl, λ r. refl)
placed_so Hash = inr (omega arith, λ s. refl, λ r. refl)
placed_so Data = inl (refl, λ s. refl, λ r. refl)
placed_so Reloc = inl (refl, λ s. refl, λ r. refl)
placed_so Aux = inl (refl, λ s. refl, λ r. refl)
placed_so Ndef = inr (omega arith, λ s. refl, λ r. refl)
placed_so Ref = inr (omega arith, λ s. refl, λ r. refl)
placed_so RefFlags = inr (omega arith, λ s. refl, λ r. refl)
placed_so RefName = inr (omega arith, λ s. refl, λ r. refl)

order_tells : (above : List LineFields) (stage : Stage) (fs : LineFields) (w : Word) → IsReached above stage → IsOfKind (kind_of w) fs → Tells (is_ordered stage w) (Breaks above fs X3)
order_tells above stage fs w at is = elim (placed_so w) [
  | inl none ↦ (
    λ h. absurd (true≢false (sym (none.1 stage) ∙ h)),
    λ h b.
        let k : b.0 ≡ kind_of w = kind_only (field_at fs 0) w b.0 is b.1 in
        let some : 0 < kind_place (kind_of w) = subst (λ (x : Kind). 0 < kind_place x) k b.2 in
        let zero_place = none.0 in
        absurd (omega arith),
  )
  | inr own ↦ (
    λ h.
        let late : kind_place (kind_of w) < stage.rank = leb-false stage.rank (kind_place (kind_of w)) (sym (own.1 stage) ∙ h) in
        (kind_of w, is, own.0, at.past (kind_place (kind_of w)) late),
    λ h b.
        let k : b.0 ≡ kind_of w = kind_only (field_at fs 0) w b.0 is b.1 in
        let late : kind_place (kind_of w) < stage.rank = at.within (kind_place (kind_of w)) (subst (λ (x : Kind). SomeLine (IsPast (kind_place x)) above) k b.3) in
        let few = leb-true stage.rank (kind_place (kind_of w)) (sym (own.1 stage) ∙ h) in
        absurd (omega arith),
  )
]

-- the parts of definitions
may_tells : (above : List LineFields) (part : Part) (w : Word) → IsPartOf above part → Tells (has_room part w) (¬ MayStand (kind_of w) above)
may_tells [] part w is =
    let e : has_room part w ≡ may_begin (kind_of w) = ap (λ (p : Part). has_room p w) is ∙ room_begins w in
    (λ h may. false≢true (sym (sym e ∙ h) ∙ may), λ h lack. lack (sym e ∙ h))
may_tells (fs ∷ above) part w is =
    let v = is.0 in
    let e : has_room part w ≡ may_follow (kind_of w) (kind_of v) = ap (λ (p : Part). has_room p w) is.2 ∙ room_is w v in (
      λ h may.
          let k : may.0 ≡ kind_of v = kind_only (field_at fs 0) v may.0 is.1 may.1 in
          false≢true (sym (sym e ∙ h) ∙ subst (λ (x : Kind). may_follow (kind_of w) x ≡ true) k may.2),
      λ h lack. lack (kind_of v, is.1, sym e ∙ h),
    )

room_tells : (above : List LineFields) (stage : Stage) (fs : LineFields) (w : Word) → IsReached above stage → IsOfKind (kind_of w) fs → Tells (has_room stage.part w) (Breaks above fs X7)
room_tells above stage fs w at is =
    let may = may_tells above stage.part w at.part in (
      λ h. (kind_of w, is, may.0 h),
      λ h b.
          let k : b.0 ≡ kind_of w = kind_only (field_at fs 0) w b.0 is b.1 in
          may.1 h (λ stand. b.2 (subst (λ (x : Kind). MayStand x above) (sym k) stand)),
    )

-- The length of long hashes.

-- a line of `hash` has one length
one_length : (fs : LineFields) (n : ℕ) (hash : List ℕ) → IsOctets (field_at fs 8) hash → HasHashLength n fs → n ≡ length hash
one_length fs n hash is own =
    let e : own.1 ≡ hash = same_ok own.1 hash (sym (octets_are (field_at fs 8) own.1 own.2) ∙ octets_are (field_at fs 8) hash is) in
    sym own.3 ∙ ap length e

some_other : (n m : ℕ) (above : List LineFields) → ¬ (m ≡ n) → SomeLine (HasHashLength m) above → SomeLine (HasOtherLength n) above
some_other n m [] other h = h
some_other n m (fs ∷ above) other (inl h) = inl (m, h, other)
some_other n m (fs ∷ above) other (inr h) = inr (some_other n m above other h)

other_some : (n : ℕ) (above : List LineFields) → SomeLine (HasOtherLength n) above → (m : ℕ) × SomeLine (HasHashLength m) above
other_some n [] h = absurd h
other_some n (fs ∷ above) (inl h) = (h.0, inl h.1)
other_some n (fs ∷ above) (inr h) = let more = other_some n above h in (more.0, inr more.1)

width_good : (above : List LineFields) (width : Option ℕ) (n : ℕ) → IsWidthOf above width → is_hash_width width n ≡ true
    → ¬ ((n < 8) ⊎ ((64 < n) ⊎ SomeLine (HasOtherLength n) above))
unfolding is_hash_width
width_good above None n at h b =
    let both = and_parts (nat_le 8 n) (nat_le n 64) h in
    let low = leb-true 8 n both.0 in
    let high = leb-true n 64 both.1 in
    elim b [
      | inl few ↦ omega arith
      | inr more ↦ elim more [ inl many ↦ omega arith | inr other ↦ let some = other_some n above other in at some.0 some.1 ]
    ]
width_good above (Some m) n at h b =
    let one = and_parts (nat_le 8 n && nat_le n 64) (eqb n m) h in
    let both = and_parts (nat_le 8 n) (nat_le n 64) one.0 in
    let low = leb-true 8 n both.0 in
    let high = leb-true n 64 both.1 in
    let same : n ≡ m = eqb-true n m one.1 in
    elim b [
      | inl few ↦ omega arith
      | inr more ↦ elim more [ inl many ↦ omega arith | inr other ↦ at.1 (subst (λ (k : ℕ). SomeLine (HasOtherLength k) above) same other) ]
    ]

out_of_range : (above : List LineFields) (n : ℕ) → (nat_le 8 n && nat_le n 64) ≡ false → (n < 8) ⊎ ((64 < n) ⊎ SomeLine (HasOtherLength n) above)
out_of_range above n h = elim (and_cases (nat_le 8 n) (nat_le n 64) h) [ inl few ↦ inl (leb-false 8 n few) | inr many ↦ inr (inl (leb-false n 64 many)) ]

width_bad : (above : List LineFields) (width : Option ℕ) (n : ℕ) → IsWidthOf above width → is_hash_width width n ≡ false
    → (n < 8) ⊎ ((64 < n) ⊎ SomeLine (HasOtherLength n) above)
unfolding is_hash_width
width_bad above None n at h = out_of_range above n h
width_bad above (Some m) n at h = elim (and_cases (nat_le 8 n && nat_le n 64) (eqb n m) h) [
  | inl range ↦ out_of_range above n range
  | inr apart ↦ let other = eqb-false n m apart in inr (inr (some_other n m above (λ e. other (sym e)) at.0))
]

-- a line of another word has no long hash, and tells nothing of their length
abbrev IsNoHash : Line → Type 0
IsNoHash line = (¬ (hash_line ≡ kind_of (word_of_line line))) × ((width : Option ℕ) → fits_width width line ≡ true) × ((width : Option ℕ) → width_after width line ≡ width)

hash_or_not : (line : Line) → ((hash : List ℕ) × (kind_of (word_of_line line) ≡ hash_line) × ((fs : LineFields) → Holds fs line → IsOctets (field_at fs 8) hash)
    × ((width : Option ℕ) → fits_width width line ≡ is_hash_width width (length hash)) × ((width : Option ℕ) → width_after width line ≡ Some (length hash))) ⊎ IsNoHash line
unfolding fits_width width_after
hash_or_not (Header flags fingerprint) = inr (λ e. cc, λ w. refl, λ w. refl)
hash_or_not (Import a) = inr (λ e. cc, λ w. refl, λ w. refl)
hash_or_not (Package p) = inr (λ e. cc, λ w. refl, λ w. refl)
hash_or_not (Source f) = inr (λ e. cc, λ w. refl, λ w. refl)
hash_or_not (Symbol Symdef sym hash) = inr (λ e. cc, λ w. refl, λ w. refl)
hash_or_not (Symbol Hashed64def sym hash) = inr (λ e. cc, λ w. refl, λ w. refl)
hash_or_not (Symbol Hasheddef sym hash) = inl (hash, refl, λ fs h. h.1, λ w. refl, λ w. refl)
hash_or_not (Symbol Nonpkgdef sym hash) = inr (λ e. cc, λ w. refl, λ w. refl)
hash_or_not (Content bytes) = inr (λ e. cc, λ w. refl, λ w. refl)
hash_or_not (Relocation r) = inr (λ e. cc, λ w. refl, λ w. refl)
hash_or_not (Auxiliary a) = inr (λ e. cc, λ w. refl, λ w. refl)
hash_or_not (Reference s) = inr (λ e. cc, λ w. refl, λ w. refl)
hash_or_not (Flags r) = inr (λ e. cc, λ w. refl, λ w. refl)
hash_or_not (Named r) = inr (λ e. cc, λ w. refl, λ w. refl)

-- a line that holds a value
pub record IsLineOf (fs : LineFields) (line : Line) : Type 0 where
  pub kind : IsOfKind (kind_of (word_of_line line)) fs
  pub holds : Holds fs line

own_length : (fs : LineFields) (line : Line) (hash : List ℕ) → kind_of (word_of_line line) ≡ hash_line → IsOctets (field_at fs 8) hash → IsLineOf fs line → HasHashLength (length hash) fs
own_length fs line hash e is of_line = (of_line.kind ∙ ap kind_word e, hash, is, refl)

no_length : (fs : LineFields) (line : Line) (n : ℕ) → IsNoHash line → IsLineOf fs line → ¬ HasHashLength n fs
no_length fs line n lack of_line h = lack.0 (kind_only (field_at fs 0) (word_of_line line) hash_line of_line.kind h.0)

width_tells : (above : List LineFields) (stage : Stage) (fs : LineFields) (line : Line) → IsReached above stage → IsLineOf fs line → Tells (fits_width stage.width line) (Breaks above fs X8)
width_tells above stage fs line at of_line = elim (hash_or_not line) [
  | inl is ↦
      let octets = is.2 fs of_line.holds in
      let own = own_length fs line is.0 is.1 octets of_line in (
        λ h. (length is.0, own, width_bad above stage.width (length is.0) at.width (sym (is.3 stage.width) ∙ h)),
        λ h b.
            let n : b.0 ≡ length is.0 = one_length fs b.0 is.0 octets b.1 in
            width_good above stage.width (length is.0) at.width (sym (is.3 stage.width) ∙ h)
            (subst (λ (k : ℕ). (k < 8) ⊎ ((64 < k) ⊎ SomeLine (HasOtherLength k) above)) n b.2),
      )
  | inr lack ↦ (λ h. absurd (true≢false (sym (lack.1 stage.width) ∙ h)), λ h b. no_length fs line b.0 lack of_line b.1)
]

-- The next line is taken.

begun_rank : (stage : Stage) (w : Word) → kind_place (kind_of w) ≡ 0 → begins_well stage w ≡ true → ¬ (stage.rank ≡ 0)
begun_rank stage w none h e = elim (is_object w) [
  | inl o ↦ let one : kind_place (kind_of w) ≡ 1 = ap (λ (x : Word). kind_place (kind_of x)) o in omega arith
  | inr other ↦ eqb-false stage.rank 0 (not-true (eqb stage.rank 0) (sym (other.0 stage) ∙ h)) e
]

no_lines : (fs : LineFields) (above : List LineFields) → fs ∷ above ≡ [] → ⊥
no_lines fs above h = cc

width_more : (above : List LineFields) (width : Option ℕ) (fs : LineFields) (line : Line) → IsWidthOf above width → IsLineOf fs line → (¬ Breaks above fs X8) → IsWidthOf (fs ∷ above) (width_after width line)
width_more above width fs line at of_line good = elim (hash_or_not line) [
  | inl is ↦
      let octets = is.2 fs of_line.holds in
      let n = length is.0 in
      let own = own_length fs line is.0 is.1 octets of_line in
      subst (IsWidthOf (fs ∷ above)) (sym (is.4 width)) (
        inl own,
        λ b. elim b [
          | inl here ↦ here.2 (one_length fs here.0 is.0 octets here.1)
          | inr there ↦ good (n, own, inr (inr there))
        ],
      )
  | inr lack ↦ subst (IsWidthOf (fs ∷ above)) (sym (lack.2 width)) (same_width width at lack)
]
  where
    same_width : (v : Option ℕ) → IsWidthOf above v → IsNoHash line → IsWidthOf (fs ∷ above) v
    same_width None h lack = λ n b. elim b [ inl here ↦ no_length fs line n lack of_line here | inr there ↦ h n there ]
    same_width (Some n) h lack = (inr h.0, λ b. elim b [ inl here ↦ no_length fs line here.0 lack of_line here.1 | inr there ↦ h.1 there ])

pub taken_on : (above : List LineFields) (stage : Stage) (fs : LineFields) (line : Line) → IsReached above stage → IsLineOf fs line
    → begins_well stage (word_of_line line) ≡ true → is_ordered stage (word_of_line line) ≡ true → (¬ Breaks above fs X8) → IsReached (fs ∷ above) (after stage line)
unfolding after
taken_on above stage fs line at of_line begun sorted good =
    let w = word_of_line line in
    let r = rank_after stage.rank w in
    elim (placed_so w) [
      | inl lack ↦
          let same : r ≡ stage.rank = lack.2 stage.rank in
          let zero_place = lack.0 in
          record {
            none = λ h. absurd (begun_rank stage w lack.0 begun (sym same ∙ h));
            some = λ h. absurd (no_lines fs above h);
            past = λ n h. inr (at.past n (omega arith));
            within = λ n b. elim b [
              | inl here ↦
                  let k : here.0 ≡ kind_of w = kind_only (field_at fs 0) w here.0 of_line.kind here.1 in
                  let low : n < kind_place (kind_of w) = subst (λ (x : Kind). n < kind_place x) k here.2 in
                  absurd (omega arith)
              | inr there ↦ let low = at.within n there in omega arith
            ];
            part = (w, of_line.kind, refl);
            width = width_more above stage.width fs line at.width of_line good;
          }
      | inr own ↦
          let place = kind_place (kind_of w) in
          let is : r ≡ place = own.2 stage.rank in
          let some_place = own.0 in
          let few : stage.rank ≤ place = leb-true stage.rank place (sym (own.1 stage) ∙ sorted) in
          record {
            none = λ h. absurd (omega arith);
            some = λ h. absurd (no_lines fs above h);
            past = λ n h. inl (kind_of w, of_line.kind, omega arith);
            within = λ n b. elim b [
              | inl here ↦
                  let k : here.0 ≡ kind_of w = kind_only (field_at fs 0) w here.0 of_line.kind here.1 in
                  let low : n < place = subst (λ (x : Kind). n < kind_place x) k here.2 in
                  omega arith
              | inr there ↦ let low = at.within n there in omega arith
            ];
            part = (w, of_line.kind, refl);
            width = width_more above stage.width fs line at.width of_line good;
          }
    ]

-- The least rule.

first1 : (above : List LineFields) (fs : LineFields) → Breaks above fs X1 → BreaksFirst above fs X1
first1 above fs b = record { broken = b; least = below }
  where
    below : (other : Rule) → rule_number other < 1 → ¬ Breaks above fs other
    below X1 h = absurd (omega arith)
    below X2 h = absurd (omega arith)
    below X3 h = absurd (omega arith)
    below X4 h = absurd (omega arith)
    below X5 h = absurd (omega arith)
    below X6 h = absurd (omega arith)
    below X7 h = absurd (omega arith)
    below X8 h = absurd (omega arith)

first2 : (above : List LineFields) (fs : LineFields) → (¬ Breaks above fs X1) → Breaks above fs X2 → BreaksFirst above fs X2
first2 above fs n1 b = record { broken = b; least = below }
  where
    below : (other : Rule) → rule_number other < 2 → ¬ Breaks above fs other
    below X1 h = n1
    below X2 h = absurd (omega arith)
    below X3 h = absurd (omega arith)
    below X4 h = absurd (omega arith)
    below X5 h = absurd (omega arith)
    below X6 h = absurd (omega arith)
    below X7 h = absurd (omega arith)
    below X8 h = absurd (omega arith)

first3 : (above : List LineFields) (fs : LineFields) → (¬ Breaks above fs X1) → (¬ Breaks above fs X2) → Breaks above fs X3 → BreaksFirst above fs X3
first3 above fs n1 n2 b = record { broken = b; least = below }
  where
    below : (other : Rule) → rule_number other < 3 → ¬ Breaks above fs other
    below X1 h = n1
    below X2 h = n2
    below X3 h = absurd (omega arith)
    below X4 h = absurd (omega arith)
    below X5 h = absurd (omega arith)
    below X6 h = absurd (omega arith)
    below X7 h = absurd (omega arith)
    below X8 h = absurd (omega arith)

first4 : (above : List LineFields) (fs : LineFields) → (¬ Breaks above fs X1) → (¬ Breaks above fs X2) → (¬ Breaks above fs X3) → Breaks above fs X4 → BreaksFirst above fs X4
first4 above fs n1 n2 n3 b = record { broken = b; least = below }
  where
    below : (other : Rule) → rule_number other < 4 → ¬ Breaks above fs other
    below X1 h = n1
    below X2 h = n2
    below X3 h = n3
    below X4 h = absurd (omega arith)
    below X5 h = absurd (omega arith)
    below X6 h = absurd (omega arith)
    below X7 h = absurd (omega arith)
    below X8 h = absurd (omega arith)

first5 : (above : List LineFields) (fs : LineFields) → (¬ Breaks above fs X1) → (¬ Breaks above fs X2) → (¬ Breaks above fs X3) → (¬ Breaks above fs X4) → Breaks above fs X5 → BreaksFirst above fs X5
first5 above fs n1 n2 n3 n4 b = record { broken = b; least = below }
  where
    below : (other : Rule) → rule_number other < 5 → ¬ Breaks above fs other
    below X1 h = n1
    below X2 h = n2
    below X3 h = n3
    below X4 h = n4
    below X5 h = absurd (omega arith)
    below X6 h = absurd (omega arith)
    below X7 h = absurd (omega arith)
    below X8 h = absurd (omega arith)

first6 : (above : List LineFields) (fs : LineFields) → (¬ Breaks above fs X1) → (¬ Breaks above fs X2) → (¬ Breaks above fs X3) → (¬ Breaks above fs X4) → (¬ Breaks above fs X5) → Breaks above fs X6 → BreaksFirst above fs X6
first6 above fs n1 n2 n3 n4 n5 b = record { broken = b; least = below }
  where
    below : (other : Rule) → rule_number other < 6 → ¬ Breaks above fs other
    below X1 h = n1
    below X2 h = n2
    below X3 h = n3
    below X4 h = n4
    below X5 h = n5
    below X6 h = absurd (omega arith)
    below X7 h = absurd (omega arith)
    below X8 h = absurd (omega arith)

first7 : (above : List LineFields) (fs : LineFields) → (¬ Breaks above fs X1) → (¬ Breaks above fs X2) → (¬ Breaks above fs X3) → (¬ Breaks above fs X4) → (¬ Breaks above fs X5) → (¬ Breaks above fs X6) → Breaks above fs X7 → BreaksFirst above fs X7
first7 above fs n1 n2 n3 n4 n5 n6 b = record { broken = b; least = below }
  where
    below : (other : Rule) → rule_number other < 7 → ¬ Breaks above fs other
    below X1 h = n1
    below X2 h = n2
    below X3 h = n3
    below X4 h = n4
    below X5 h = n5
    below X6 h = n6
    below X7 h = absurd (omega arith)
    below X8 h = absurd (omega arith)

first8 : (above : List LineFields) (fs : LineFields) → (¬ Breaks above fs X1) → (¬ Breaks above fs X2) → (¬ Breaks above fs X3) → (¬ Breaks above fs X4) → (¬ Breaks above fs X5) → (¬ Breaks above fs X6) → (¬ Breaks above fs X7) → Breaks above fs X8 → BreaksFirst above fs X8
first8 above fs n1 n2 n3 n4 n5 n6 n7 b = record { broken = b; least = below }
  where
    below : (other : Rule) → rule_number other < 8 → ¬ Breaks above fs other
    below X1 h = n1
    below X2 h = n2
    below X3 h = n3
    below X4 h = n4
    below X5 h = n5
    below X6 h = n6
    below X7 h = n7
    below X8 h = absurd (omega arith)

all_kept : (above : List LineFields) (fs : LineFields) → (¬ Breaks above fs X1) → (¬ Breaks above fs X2) → (¬ Breaks above fs X3) → (¬ Breaks above fs X4) → (¬ Breaks above fs X5) → (¬ Breaks above fs X6) → (¬ Breaks above fs X7) → (¬ Breaks above fs X8) → IsGoodLine above fs
all_kept above fs n1 n2 n3 n4 n5 n6 n7 n8 X1 = n1
all_kept above fs n1 n2 n3 n4 n5 n6 n7 n8 X2 = n2
all_kept above fs n1 n2 n3 n4 n5 n6 n7 n8 X3 = n3
all_kept above fs n1 n2 n3 n4 n5 n6 n7 n8 X4 = n4
all_kept above fs n1 n2 n3 n4 n5 n6 n7 n8 X5 = n5
all_kept above fs n1 n2 n3 n4 n5 n6 n7 n8 X6 = n6
all_kept above fs n1 n2 n3 n4 n5 n6 n7 n8 X7 = n7
all_kept above fs n1 n2 n3 n4 n5 n6 n7 n8 X8 = n8

-- What is known of the next line: it is taken, and is a good one, or it breaks a rule first.
abbrev pub LineVerdict : List LineFields → Stage → List ℕ → Type 0
LineVerdict above stage line =
    ((value : Line) × (line_at stage line ≡ Ok value) × IsLineOf (fields line) value × IsGoodLine above (fields line) × IsReached (fields line ∷ above) (after stage value))
    ⊎ ((rule : Rule) × (line_at stage line ≡ Err (rule_number rule)) × BreaksFirst above (fields line) rule)

pub line_verdict : (above : List LineFields) (stage : Stage) (line : List ℕ) → IsReached above stage → LineVerdict above stage line
unfolding line_at
line_verdict above stage line at =
    let fs = fields line in
    elim (word_verdict (field_at fs 0)) [
      | inr none ↦ let e = none.0 in inr (X1, rw e refl, first1 above fs none.1)
      | inl word ↦
          let w = word.0 in
          let e1 = word.1 in
          let is = word.2 in
          let n1 : ¬ Breaks above fs X1 = λ b. b (kind_of w) is in
          let t2 = begins_tell above stage fs w at is in
          elim (cases_Bool (begins_well stage w)) [
            | inr e2 ↦ inr (X2, rw (e1, e2) refl, first2 above fs n1 (t2.0 e2))
            | inl e2 ↦
                let n2 = t2.1 e2 in
                let t3 = order_tells above stage fs w at is in
                elim (cases_Bool (is_ordered stage w)) [
                  | inr e3 ↦ inr (X3, rw (e1, e2, e3) refl, first3 above fs n1 n2 (t3.0 e3))
                  | inl e3 ↦
                      let n3 = t3.1 e3 in
                      elim (cases_Bool (eqb (length fs) (arity w + 1))) [
                        | inr e4 ↦
                            let apart = eqb-false (length fs) (arity w + 1) e4 in
                            let four : Breaks above fs X4 = (kind_of w, is, λ h. apart (h ∙ ap (λ (n : ℕ). n + 1) (sym (arity_is w)))) in
                            inr (X4, rw (e1, e2, e3, e4) refl, first4 above fs n1 n2 n3 four)
                        | inl e4 ↦
                            let count : length fs ≡ length (kind_sorts (kind_of w)) + 1 = eqb-true (length fs) (arity w + 1) e4 ∙ ap (λ (n : ℕ). n + 1) (arity_is w) in
                            let n4 : ¬ Breaks above fs X4 = λ b. b.2 (subst (λ (x : Kind). length fs ≡ length (kind_sorts x) + 1) (sym (kind_only (field_at fs 0) w b.0 is b.1)) count) in
                            elim (line_reads w fs (fields_full line) count) [
                              | inr bad ↦ elim bad [
                                | inl five ↦ let e5 = five.0 in inr (X5, rw (e1, e2, e3, e4, e5) refl, first5 above fs n1 n2 n3 n4 (kind_of w, is, five.1))
                                | inr six ↦
                                    let e5 = six.0 in
                                    let n5 : ¬ Breaks above fs X5 = λ b. six.1 (subst (λ (x : Kind). HasMalformed true 1 (kind_sorts x) fs) (kind_only (field_at fs 0) w b.0 is b.1) b.2) in
                                    inr (X6, rw (e1, e2, e3, e4, e5) refl, first6 above fs n1 n2 n3 n4 n5 (kind_of w, is, six.2))
                              ]
                              | inl good ↦
                                  let e5 = good.1 in
                                  let value = good.0 in
                                  let n5 : ¬ Breaks above fs X5 = λ b. good.4 true (subst (λ (x : Kind). HasMalformed true 1 (kind_sorts x) fs) (kind_only (field_at fs 0) w b.0 is b.1) b.2) in
                                  let n6 : ¬ Breaks above fs X6 = λ b. good.4 false (subst (λ (x : Kind). HasMalformed false 1 (kind_sorts x) fs) (kind_only (field_at fs 0) w b.0 is b.1) b.2) in
                                  let t7 = room_tells above stage fs w at is in
                                  elim (cases_Bool (has_room stage.part w)) [
                                    | inr e7 ↦ inr (X7, rw (e1, e2, e3, e4, e5, e7) refl, first7 above fs n1 n2 n3 n4 n5 n6 (t7.0 e7))
                                    | inl e7 ↦
                                        let n7 = t7.1 e7 in
                                        let same : word_of_line value ≡ w = good.2 in
                                        let of_line : IsLineOf fs value = record { kind = subst (λ (x : Word). IsOfKind (kind_of x) fs) (sym same) is; holds = good.3 } in
                                        let t8 = width_tells above stage fs value at of_line in
                                        elim (cases_Bool (fits_width stage.width value)) [
                                          | inr e8 ↦ inr (X8, rw (e1, e2, e3, e4, e5, e7, e8) refl, first8 above fs n1 n2 n3 n4 n5 n6 n7 (t8.0 e8))
                                          | inl e8 ↦
                                              let n8 = t8.1 e8 in
                                              let begun : begins_well stage (word_of_line value) ≡ true = subst (λ (x : Word). begins_well stage x ≡ true) (sym same) e2 in
                                              let sorted : is_ordered stage (word_of_line value) ≡ true = subst (λ (x : Word). is_ordered stage x ≡ true) (sym same) e3 in
                                              inl (value, rw (e1, e2, e3, e4, e5, e7, e8) refl, of_line, all_kept above fs n1 n2 n3 n4 n5 n6 n7 n8, taken_on above stage fs value at of_line begun sorted n8)
                                        ]
                                  ]
                            ]
                      ]
                ]
          ]
    ]
