-- The kinds of lines of the text form are the words of lines.
use Rattle.std.proofs.Common.{◌≡◌, ◌∙◌, ℕ, true, false, List, [], ◌∷◌, length, refl, ap, sym, inl, inr, cond, Ok, Err}
use Rattle.std.specs.Prelude.{◌⊎◌}
use Rattle.std.specs.Str.{bytes_eq}
use Rattle.std.specs.Cmp.Lexicographic.{bytes_decides}
use Rattle.glk_objtext.specs.Grammar.{has_room, part_after}
use Rattle.glk_objtext.specs.Kinds.{Kind, kind_word, kind_place, kind_sorts, may_follow, may_begin}
use Rattle.glk_objtext.specs.Kinds.Kind.{object_line, autolib_line, pkg_line, file_line, def_line, hash64_line, hash_line, ndef_line, ref_line, refflags_line, refname_line, data_line, reloc_line, aux_line}
use Rattle.glk_objtext.specs.Words.{spelling, word_among, word_of, words, arity, rank}
use Rattle.glk_objtext.specs.declared.stage.Part.TheVariants.{Outside}
use Rattle.glk_objtext.specs.declared.words.Word.{Word}
use Rattle.glk_objtext.specs.declared.words.Word.TheVariants.{Object, Autolib, Pkg, File, Def, Hash64, Hash, Data, Reloc, Aux, Ndef, Ref, RefFlags, RefName}
use Rattle.glk_objtext.proofs.SortForms.{same_ok}
use Rattle.glk_objtext.proofs.StringForms.{err_ok}

-- the kind of the lines of a word, and its word
abbrev pub kind_of : Word → Kind
kind_of Object = object_line
kind_of Autolib = autolib_line
kind_of Pkg = pkg_line
kind_of File = file_line
kind_of Def = def_line
kind_of Hash64 = hash64_line
kind_of Hash = hash_line
kind_of Data = data_line
kind_of Reloc = reloc_line
kind_of Aux = aux_line
kind_of Ndef = ndef_line
kind_of Ref = ref_line
kind_of RefFlags = refflags_line
kind_of RefName = refname_line

abbrev pub word_for : Kind → Word
word_for object_line = Object
word_for autolib_line = Autolib
word_for pkg_line = Pkg
word_for file_line = File
word_for def_line = Def
word_for hash64_line = Hash64
word_for hash_line = Hash
word_for ndef_line = Ndef
word_for ref_line = Ref
word_for refflags_line = RefFlags
word_for refname_line = RefName
word_for data_line = Data
word_for reloc_line = Reloc
word_for aux_line = Aux

-- what holds of each word, and of each kind
pub each_word : (P : Word → Type 0) → P Object → P Autolib → P Pkg → P File → P Def → P Hash64 → P Hash → P Data → P Reloc → P Aux → P Ndef → P Ref → P RefFlags → P RefName → (w : Word) → P w
each_word P p0 p1 p2 p3 p4 p5 p6 p7 p8 p9 p10 p11 p12 p13 Object = p0
each_word P p0 p1 p2 p3 p4 p5 p6 p7 p8 p9 p10 p11 p12 p13 Autolib = p1
each_word P p0 p1 p2 p3 p4 p5 p6 p7 p8 p9 p10 p11 p12 p13 Pkg = p2
each_word P p0 p1 p2 p3 p4 p5 p6 p7 p8 p9 p10 p11 p12 p13 File = p3
each_word P p0 p1 p2 p3 p4 p5 p6 p7 p8 p9 p10 p11 p12 p13 Def = p4
each_word P p0 p1 p2 p3 p4 p5 p6 p7 p8 p9 p10 p11 p12 p13 Hash64 = p5
each_word P p0 p1 p2 p3 p4 p5 p6 p7 p8 p9 p10 p11 p12 p13 Hash = p6
each_word P p0 p1 p2 p3 p4 p5 p6 p7 p8 p9 p10 p11 p12 p13 Data = p7
each_word P p0 p1 p2 p3 p4 p5 p6 p7 p8 p9 p10 p11 p12 p13 Reloc = p8
each_word P p0 p1 p2 p3 p4 p5 p6 p7 p8 p9 p10 p11 p12 p13 Aux = p9
each_word P p0 p1 p2 p3 p4 p5 p6 p7 p8 p9 p10 p11 p12 p13 Ndef = p10
each_word P p0 p1 p2 p3 p4 p5 p6 p7 p8 p9 p10 p11 p12 p13 Ref = p11
each_word P p0 p1 p2 p3 p4 p5 p6 p7 p8 p9 p10 p11 p12 p13 RefFlags = p12
each_word P p0 p1 p2 p3 p4 p5 p6 p7 p8 p9 p10 p11 p12 p13 RefName = p13

pub kind_back : (k : Kind) → kind_of (word_for k) ≡ k
kind_back object_line = refl
kind_back autolib_line = refl
kind_back pkg_line = refl
kind_back file_line = refl
kind_back def_line = refl
kind_back hash64_line = refl
kind_back hash_line = refl
kind_back ndef_line = refl
kind_back ref_line = refl
kind_back refflags_line = refl
kind_back refname_line = refl
kind_back data_line = refl
kind_back reloc_line = refl
kind_back aux_line = refl

pub word_back : (w : Word) → word_for (kind_of w) ≡ w
word_back = each_word (λ w. word_for (kind_of w) ≡ w) refl refl refl refl refl refl refl refl refl refl refl refl refl refl

pub word_text : (w : Word) → spelling w ≡ kind_word (kind_of w)
unfolding spelling
word_text = each_word (λ w. spelling w ≡ kind_word (kind_of w)) refl refl refl refl refl refl refl refl refl refl refl refl refl refl

pub place_is : (w : Word) → rank w ≡ kind_place (kind_of w)
unfolding rank
place_is = each_word (λ w. rank w ≡ kind_place (kind_of w)) refl refl refl refl refl refl refl refl refl refl refl refl refl refl

pub arity_is : (w : Word) → arity w ≡ length (kind_sorts (kind_of w))
unfolding arity
arity_is = each_word (λ w. arity w ≡ length (kind_sorts (kind_of w))) refl refl refl refl refl refl refl refl refl refl refl refl refl refl

word_reads : (k : Kind) → word_of (kind_word k) ≡ Ok (word_for k)
unfolding word_among spelling
word_reads object_line = refl
word_reads autolib_line = refl
word_reads pkg_line = refl
word_reads file_line = refl
word_reads def_line = refl
word_reads hash64_line = refl
word_reads hash_line = refl
word_reads ndef_line = refl
word_reads ref_line = refl
word_reads refflags_line = refl
word_reads refname_line = refl
word_reads data_line = refl
word_reads reloc_line = refl
word_reads aux_line = refl

-- which line may follow which
follows : (v : Word) (w : Word) → has_room (part_after w) v ≡ may_follow (kind_of v) (kind_of w)
unfolding has_room part_after
follows Object = each_word (λ w. has_room (part_after w) Object ≡ may_follow object_line (kind_of w)) refl refl refl refl refl refl refl refl refl refl refl refl refl refl
follows Autolib = each_word (λ w. has_room (part_after w) Autolib ≡ may_follow autolib_line (kind_of w)) refl refl refl refl refl refl refl refl refl refl refl refl refl refl
follows Pkg = each_word (λ w. has_room (part_after w) Pkg ≡ may_follow pkg_line (kind_of w)) refl refl refl refl refl refl refl refl refl refl refl refl refl refl
follows File = each_word (λ w. has_room (part_after w) File ≡ may_follow file_line (kind_of w)) refl refl refl refl refl refl refl refl refl refl refl refl refl refl
follows Def = each_word (λ w. has_room (part_after w) Def ≡ may_follow def_line (kind_of w)) refl refl refl refl refl refl refl refl refl refl refl refl refl refl
follows Hash64 = each_word (λ w. has_room (part_after w) Hash64 ≡ may_follow hash64_line (kind_of w)) refl refl refl refl refl refl refl refl refl refl refl refl refl refl
follows Hash = each_word (λ w. has_room (part_after w) Hash ≡ may_follow hash_line (kind_of w)) refl refl refl refl refl refl refl refl refl refl refl refl refl refl
follows Data = each_word (λ w. has_room (part_after w) Data ≡ may_follow data_line (kind_of w)) refl refl refl refl refl refl refl refl refl refl refl refl refl refl
follows Reloc = each_word (λ w. has_room (part_after w) Reloc ≡ may_follow reloc_line (kind_of w)) refl refl refl refl refl refl refl refl refl refl refl refl refl refl
follows Aux = each_word (λ w. has_room (part_after w) Aux ≡ may_follow aux_line (kind_of w)) refl refl refl refl refl refl refl refl refl refl refl refl refl refl
follows Ndef = each_word (λ w. has_room (part_after w) Ndef ≡ may_follow ndef_line (kind_of w)) refl refl refl refl refl refl refl refl refl refl refl refl refl refl
follows Ref = each_word (λ w. has_room (part_after w) Ref ≡ may_follow ref_line (kind_of w)) refl refl refl refl refl refl refl refl refl refl refl refl refl refl
follows RefFlags = each_word (λ w. has_room (part_after w) RefFlags ≡ may_follow refflags_line (kind_of w)) refl refl refl refl refl refl refl refl refl refl refl refl refl refl
follows RefName = each_word (λ w. has_room (part_after w) RefName ≡ may_follow refname_line (kind_of w)) refl refl refl refl refl refl refl refl refl refl refl refl refl refl

pub room_is : (v w : Word) → has_room (part_after w) v ≡ may_follow (kind_of v) (kind_of w)
room_is v w = follows v w

pub room_begins : (v : Word) → has_room Outside v ≡ may_begin (kind_of v)
unfolding has_room
room_begins = each_word (λ v. has_room Outside v ≡ may_begin (kind_of v)) refl refl refl refl refl refl refl refl refl refl refl refl refl refl

among : (ws : List Word) (field : List ℕ) → ((w : Word) × (word_among ws field ≡ Ok w) × (field ≡ spelling w)) ⊎ (word_among ws field ≡ Err 1)
unfolding word_among
among [] field = inr refl
among (w ∷ ws) field =
    elim (bytes_eq field (spelling w)) as (λ v. bytes_eq field (spelling w) ≡ v → ((x : Word) × (cond v (Ok w) (word_among ws field) ≡ Ok x) × (field ≡ spelling x)) ⊎ (cond v (Ok w) (word_among ws field) ≡ Err 1)) [
      | true ↦ λ e. inl (w, refl, (bytes_decides field (spelling w)).0 e)
      | false ↦ λ e. among ws field
    ] refl

-- a word is of one kind, or of none
pub word_verdict : (field : List ℕ) → ((w : Word) × (word_of field ≡ Ok w) × (field ≡ kind_word (kind_of w))) ⊎ ((word_of field ≡ Err 1) × ((k : Kind) → ¬ (field ≡ kind_word k)))
word_verdict field = elim (among words field) [
  | inl is ↦ inl (is.0, is.1, is.2 ∙ word_text is.0)
  | inr none ↦ inr (none, λ k e. err_ok 1 (word_for k) (sym none ∙ ap word_of e ∙ word_reads k))
]

-- a line is of one kind
pub kind_only : (field : List ℕ) (w : Word) (k : Kind) → field ≡ kind_word (kind_of w) → field ≡ kind_word k → k ≡ kind_of w
kind_only field w k h e =
    let word : word_for k ≡ word_for (kind_of w) = same_ok (word_for k) (word_for (kind_of w)) (sym (word_reads k) ∙ ap word_of (sym e ∙ h) ∙ word_reads (kind_of w)) in
    sym (kind_back k) ∙ ap kind_of (word ∙ word_back w)

-- the word of a kind reads as the word
pub kind_reads : (field : List ℕ) (k : Kind) → field ≡ kind_word k → word_of field ≡ Ok (word_for k)
kind_reads field k e = ap word_of e ∙ word_reads k
