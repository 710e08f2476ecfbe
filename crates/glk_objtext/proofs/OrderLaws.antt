-- The lines of a description come in an order that is read.
use Rattle.std.proofs.Common.{◌≡◌, ℕ, ◌<◌, ◌≤◌, ◌∙◌, true, false, not, List, [], ◌∷◌, ◌++◌, length, map, refl, ap, sym, subst, arith, eqb, append_assoc, append-nil, Option, Some, None}
use Rattle.std.specs.List.{All, flat_map}
use Rattle.std.proofs.lemmas.Bool.{false≢true}
use Rattle.std.proofs.lemmas.List.Elements.{All-head, All-tail}
use Rattle.glk_objdesc.specs.Printable.{IsPrintable}
use Rattle.glk_objdesc.specs.declared.desc.DefDesc.{DefDesc}
use Rattle.glk_objdesc.specs.declared.desc.ObjDesc.{ObjDesc}
use Rattle.glk_obj.specs.declared.records.AuxRec.{AuxRec}
use Rattle.glk_obj.specs.declared.records.RelocRec.{RelocRec}
use Rattle.glk_objtext.specs.Grammar.{at_start, after, begins_well, is_ordered, has_room, fits_width, is_hash_width, rank_after, part_after, width_after}
use Rattle.glk_objtext.specs.Text.{content_lines, def_lines, lines_of}
use Rattle.glk_objtext.specs.Values.{word_of_line, block_word}
use Rattle.glk_objtext.specs.Words.{rank}
use Rattle.glk_objtext.specs.declared.line.DefBlock.{DefBlock}
use Rattle.glk_objtext.specs.declared.line.DefBlock.TheVariants.{Symdef, Hashed64def, Hasheddef, Nonpkgdef}
use Rattle.glk_objtext.specs.declared.line.Line.{Line}
use Rattle.glk_objtext.specs.declared.line.Line.TheVariants.{Header, Import, Package, Source, Symbol, Content, Relocation, Auxiliary, Reference, Flags, Named}
use Rattle.glk_objtext.specs.declared.stage.Part.{Part}
use Rattle.glk_objtext.specs.declared.stage.Part.TheVariants.{Outside, Fresh, Filled, Relocs, Auxes}
use Rattle.glk_objtext.specs.declared.stage.Stage.{Stage}
use Rattle.glk_objtext.specs.declared.words.Word.{Word}
use Rattle.glk_objtext.specs.declared.words.Word.TheVariants.{Autolib, Pkg, File, Def, Hash64, Hash, Reloc, Aux, Ndef, Ref, RefFlags, RefName}

-- a line that may come at a stage
pub record MayCome (stage : Stage) (line : Line) : Type 0 where
  pub begun : begins_well stage (word_of_line line) ≡ true
  pub sorted : is_ordered stage (word_of_line line) ≡ true
  pub placed : has_room stage.part (word_of_line line) ≡ true
  pub sized : fits_width stage.width line ≡ true

-- lines that may come one after the other; an `object` line has come by their end
abbrev pub IsRun : Stage → List Line → Type 0
IsRun stage [] = eqb stage.rank 0 ≡ false
IsRun stage (line ∷ more) = MayCome stage line × IsRun (after stage line) more

-- lines that may come wherever no line of a rank above this one has come, and what is known of the
-- length of long hashes holds
abbrev pub IsReady : (Option ℕ → Type 0) → ℕ → List Line → Type 0
IsReady known k lines = (stage : Stage) → 0 < stage.rank → stage.rank ≤ k → known stage.width → IsRun stage lines

ready_less : (known : Option ℕ → Type 0) (j k : ℕ) (lines : List Line) → j ≤ k → IsReady known k lines → IsReady known j lines
ready_less known j k lines low h = λ stage some few is. h stage some (omega arith) is

ready_none : (known : Option ℕ → Type 0) (k : ℕ) → IsReady known k []
ready_none known k = λ stage some few is. grind arith

-- a word with a place of its own
record IsPlaced (w : Word) (k : ℕ) : Type 0 where
  begins : (stage : Stage) → 0 < stage.rank → begins_well stage w ≡ true
  sorted : (stage : Stage) → stage.rank ≤ k → is_ordered stage w ≡ true
  fits : (part : Part) → has_room part w ≡ true
  next : (r : ℕ) → rank_after r w ≡ k
  some : 0 < k

each_part : (P : Part → Type 0) → P Outside → P Fresh → P Filled → P Relocs → P Auxes → (part : Part) → P part
each_part P a b c d e Outside = a
each_part P a b c d e Fresh = b
each_part P a b c d e Filled = c
each_part P a b c d e Relocs = d
each_part P a b c d e Auxes = e

begun : (r : ℕ) → 0 < r → not (eqb r 0) ≡ true
begun r h = let e : eqb r 0 ≡ false = grind arith in rw e refl

placed_autolib : IsPlaced Autolib 2
unfolding begins_well is_ordered has_room rank_after rank
placed_autolib = record { begins = λ s h. begun s.rank h; sorted = λ s h. grind arith; fits = each_part (λ p. has_room p Autolib ≡ true) refl refl refl refl refl; next = λ r. refl; some = omega arith }

placed_pkg : IsPlaced Pkg 3
unfolding begins_well is_ordered has_room rank_after rank
placed_pkg = record { begins = λ s h. begun s.rank h; sorted = λ s h. grind arith; fits = each_part (λ p. has_room p Pkg ≡ true) refl refl refl refl refl; next = λ r. refl; some = omega arith }

placed_file : IsPlaced File 4
unfolding begins_well is_ordered has_room rank_after rank
placed_file = record { begins = λ s h. begun s.rank h; sorted = λ s h. grind arith; fits = each_part (λ p. has_room p File ≡ true) refl refl refl refl refl; next = λ r. refl; some = omega arith }

placed_def : IsPlaced Def 5
unfolding begins_well is_ordered has_room rank_after rank
placed_def = record { begins = λ s h. begun s.rank h; sorted = λ s h. grind arith; fits = each_part (λ p. has_room p Def ≡ true) refl refl refl refl refl; next = λ r. refl; some = omega arith }

placed_hash64 : IsPlaced Hash64 6
unfolding begins_well is_ordered has_room rank_after rank
placed_hash64 = record { begins = λ s h. begun s.rank h; sorted = λ s h. grind arith; fits = each_part (λ p. has_room p Hash64 ≡ true) refl refl refl refl refl; next = λ r. refl; some = omega arith }

placed_hash : IsPlaced Hash 7
unfolding begins_well is_ordered has_room rank_after rank
placed_hash = record { begins = λ s h. begun s.rank h; sorted = λ s h. grind arith; fits = each_part (λ p. has_room p Hash ≡ true) refl refl refl refl refl; next = λ r. refl; some = omega arith }

placed_ndef : IsPlaced Ndef 8
unfolding begins_well is_ordered has_room rank_after rank
placed_ndef = record { begins = λ s h. begun s.rank h; sorted = λ s h. grind arith; fits = each_part (λ p. has_room p Ndef ≡ true) refl refl refl refl refl; next = λ r. refl; some = omega arith }

placed_ref : IsPlaced Ref 9
unfolding begins_well is_ordered has_room rank_after rank
placed_ref = record { begins = λ s h. begun s.rank h; sorted = λ s h. grind arith; fits = each_part (λ p. has_room p Ref ≡ true) refl refl refl refl refl; next = λ r. refl; some = omega arith }

placed_flags : IsPlaced RefFlags 10
unfolding begins_well is_ordered has_room rank_after rank
placed_flags = record { begins = λ s h. begun s.rank h; sorted = λ s h. grind arith; fits = each_part (λ p. has_room p RefFlags ≡ true) refl refl refl refl refl; next = λ r. refl; some = omega arith }

placed_name : IsPlaced RefName 11
unfolding begins_well is_ordered has_room rank_after rank
placed_name = record { begins = λ s h. begun s.rank h; sorted = λ s h. grind arith; fits = each_part (λ p. has_room p RefName ≡ true) refl refl refl refl refl; next = λ r. refl; some = omega arith }

-- a line with such a word, and what follows it at that rank
placed_line : (known : Option ℕ → Type 0) (w : Word) (k : ℕ) (line : Line) (more : List Line) → IsPlaced w k → word_of_line line ≡ w
    → (stage : Stage) → 0 < stage.rank → stage.rank ≤ k → fits_width stage.width line ≡ true
    → ((behind : Stage) → behind.rank ≡ k → behind.part ≡ part_after w → behind.width ≡ width_after stage.width line → IsRun behind more)
    → IsRun stage (line ∷ more)
unfolding after
placed_line known w k line more own is stage some few fits rest = (
  record {
    begun = rw is (own.begins stage some);
    sorted = rw is (own.sorted stage few);
    placed = rw is (own.fits stage.part);
    sized = fits;
  },
  rest (after stage line) (rw is (own.next stage.rank)) (rw is refl) refl,
)

-- a list of lines of one kind that keep what is known of long hashes
ready_map : {A : Type 0} (known : Option ℕ → Type 0) (w : Word) (k : ℕ) (make : A → Line) → IsPlaced w k
    → ((x : A) → word_of_line (make x) ≡ w) → ((x : A) (width : Option ℕ) → fits_width width (make x) ≡ true) → ((x : A) (width : Option ℕ) → width_after width (make x) ≡ width)
    → (xs : List A) (rest : List Line) → IsReady known k rest → IsReady known k (map make xs ++ rest)
ready_map {A} known w k make own is fits keeps [] rest h = h
ready_map {A} known w k make own is fits keeps (x ∷ xs) rest h = λ stage some few sure.
    placed_line known w k (make x) (map make xs ++ rest) own (is x) stage some few (fits x stage.width)
    (λ behind r p v. ready_map known w k make own is fits keeps xs rest h behind (let s = own.some in omega arith) (omega arith) (subst known (sym (v ∙ keeps x stage.width)) sure))

-- parts of a definition
aux_behind_reloc : (part : Part) → has_room part Reloc ≡ true → has_room part Aux ≡ true
unfolding has_room
aux_behind_reloc Outside h = absurd (false≢true h)
aux_behind_reloc Fresh h = refl
aux_behind_reloc Filled h = refl
aux_behind_reloc Relocs h = refl
aux_behind_reloc Auxes h = refl

aux_run : (known : Option ℕ → Type 0) (k : ℕ) (xs : List AuxRec) (rest : List Line) → IsReady known k rest
    → (stage : Stage) → 0 < stage.rank → stage.rank ≤ k → known stage.width → has_room stage.part Aux ≡ true → IsRun stage (map Auxiliary xs ++ rest)
unfolding after begins_well is_ordered has_room fits_width rank_after part_after width_after
aux_run known k [] rest h stage some few sure room = h stage some few sure
aux_run known k (x ∷ xs) rest h stage some few sure room = (
  record { begun = begun stage.rank some; sorted = refl; placed = room; sized = refl },
  aux_run known k xs rest h (after stage (Auxiliary x)) some few sure refl,
)

reloc_run : (known : Option ℕ → Type 0) (k : ℕ) (rs : List RelocRec) (xs : List AuxRec) (rest : List Line) → IsReady known k rest
    → (stage : Stage) → 0 < stage.rank → stage.rank ≤ k → known stage.width → has_room stage.part Reloc ≡ true → IsRun stage (map Relocation rs ++ (map Auxiliary xs ++ rest))
unfolding after begins_well is_ordered has_room fits_width rank_after part_after width_after
reloc_run known k [] xs rest h stage some few sure room = aux_run known k xs rest h stage some few sure (aux_behind_reloc stage.part room)
reloc_run known k (r ∷ rs) xs rest h stage some few sure room = (
  record { begun = begun stage.rank some; sorted = refl; placed = room; sized = refl },
  reloc_run known k rs xs rest h (after stage (Relocation r)) some few sure refl,
)

parts_run : (known : Option ℕ → Type 0) (k : ℕ) (content : List ℕ) (rs : List RelocRec) (xs : List AuxRec) (rest : List Line) → IsReady known k rest
    → (stage : Stage) → 0 < stage.rank → stage.rank ≤ k → known stage.width → stage.part ≡ Fresh → IsRun stage (content_lines content ++ (map Relocation rs ++ (map Auxiliary xs ++ rest)))
unfolding after begins_well is_ordered has_room fits_width rank_after part_after width_after
parts_run known k [] rs xs rest h stage some few sure fresh = reloc_run known k rs xs rest h stage some few sure (rw fresh refl)
parts_run known k (b ∷ s) rs xs rest h stage some few sure fresh = (
  record { begun = begun stage.rank some; sorted = refl; placed = rw fresh refl; sized = refl },
  reloc_run known k rs xs rest h (after stage (Content (b ∷ s))) some few sure refl,
)

-- a definition and what follows it, as one list after the other
pub def_joined : (block : DefBlock) (def : DefDesc) (rest : List Line)
    → def_lines block def ++ rest ≡ Symbol block def.sym def.hash ∷ (content_lines def.content ++ (map Relocation def.relocs ++ (map Auxiliary def.auxes ++ rest)))
unfolding def_lines
def_joined block def rest =
    ap (λ (more : List Line). Symbol block def.sym def.hash ∷ more)
    (append_assoc (content_lines def.content) (map Relocation def.relocs ++ map Auxiliary def.auxes) rest
    ∙ ap (λ (more : List Line). content_lines def.content ++ more) (append_assoc (map Relocation def.relocs) (map Auxiliary def.auxes) rest))

-- a block whose definitions have a place of their own
record IsBlockPlaced (block : DefBlock) (k : ℕ) : Type 0 where
  own : IsPlaced (block_word block) k
  fresh : part_after (block_word block) ≡ Fresh

-- a definition that fits what is known of long hashes, and keeps it
record IsFitting (known : Option ℕ → Type 0) (block : DefBlock) (def : DefDesc) : Type 0 where
  fits : (width : Option ℕ) → known width → fits_width width (Symbol block def.sym def.hash) ≡ true
  keeps : (width : Option ℕ) → known width → known (width_after width (Symbol block def.sym def.hash))

ready_def : (known : Option ℕ → Type 0) (k : ℕ) (block : DefBlock) (def : DefDesc) (rest : List Line) → IsBlockPlaced block k → IsFitting known block def → IsReady known k rest → IsReady known k (def_lines block def ++ rest)
ready_def known k block def rest placed fitting h = λ stage some few sure.
    subst (IsRun stage) (sym (def_joined block def rest))
    (placed_line known (block_word block) k (Symbol block def.sym def.hash) (content_lines def.content ++ (map Relocation def.relocs ++ (map Auxiliary def.auxes ++ rest))) placed.own refl stage some few (fitting.fits stage.width sure)
    (λ behind r p v. parts_run known k def.content def.relocs def.auxes rest h behind (let s = placed.own.some in omega arith) (omega arith) (subst known (sym v) (fitting.keeps stage.width sure)) (p ∙ placed.fresh)))

ready_defs : (known : Option ℕ → Type 0) (k : ℕ) (block : DefBlock) (defs : List DefDesc) (rest : List Line) → IsBlockPlaced block k → All (IsFitting known block) defs → IsReady known k rest → IsReady known k (flat_map (def_lines block) defs ++ rest)
ready_defs known k block [] rest placed fitting h = h
ready_defs known k block (def ∷ defs) rest placed fitting h =
    subst (IsReady known k) (sym (append_assoc (def_lines block def) (flat_map (def_lines block) defs) rest))
    (ready_def known k block def (flat_map (def_lines block) defs ++ rest) placed (All-head (IsFitting known block) def defs fitting)
    (ready_defs known k block defs rest placed (All-tail (IsFitting known block) def defs fitting) h))

block_def : IsBlockPlaced Symdef 5
unfolding part_after
block_def = record { own = placed_def; fresh = refl }

block_hash64 : IsBlockPlaced Hashed64def 6
unfolding part_after
block_hash64 = record { own = placed_hash64; fresh = refl }

block_hash : IsBlockPlaced Hasheddef 7
unfolding part_after
block_hash = record { own = placed_hash; fresh = refl }

block_ndef : IsBlockPlaced Nonpkgdef 8
unfolding part_after
block_ndef = record { own = placed_ndef; fresh = refl }

-- what is known of long hashes: nothing, that none has come, that those of this length may come
abbrev known_nothing : Option ℕ → Type 0
known_nothing width = Unit {0}

abbrev known_none : Option ℕ → Type 0
known_none width = width ≡ None

abbrev known_length : ℕ → Option ℕ → Type 0
known_length n width = is_hash_width width n ≡ true

fitting_def : (def : DefDesc) → IsFitting known_none Symdef def
unfolding fits_width width_after
fitting_def def = record { fits = λ width h. refl; keeps = λ width h. h }

fitting_hash64 : (def : DefDesc) → IsFitting known_none Hashed64def def
unfolding fits_width width_after
fitting_hash64 def = record { fits = λ width h. refl; keeps = λ width h. h }

fitting_ndef : (def : DefDesc) → IsFitting known_nothing Nonpkgdef def
unfolding fits_width width_after
fitting_ndef def = record { fits = λ width h. refl; keeps = λ width h. tt }

first_width : (n : ℕ) → 8 ≤ n → n ≤ 64 → (is_hash_width None n ≡ true) × (is_hash_width (Some n) n ≡ true)
unfolding is_hash_width
first_width n low high = (grind arith, grind arith)

fitting_hash : (n : ℕ) → 8 ≤ n → n ≤ 64 → (def : DefDesc) → length def.hash ≡ n → IsFitting (known_length n) Hasheddef def
unfolding fits_width width_after
fitting_hash n low high def is = record {
  fits = λ width h. rw is h;
  keeps = λ width h. rw is ((first_width n low high).1);
}

all_of : (P : DefDesc → Type 0) → ((def : DefDesc) → P def) → (defs : List DefDesc) → All P defs
all_of P h defs = λ k d inside. h _

-- the lists of lines, from the last kind to the first
abbrev pub from_names : ObjDesc → List Line
from_names d = map Named d.ref_names

abbrev pub from_flags : ObjDesc → List Line
from_flags d = map Flags d.ref_flags ++ from_names d

abbrev pub from_refs : ObjDesc → List Line
from_refs d = map Reference d.refs ++ from_flags d

abbrev pub from_ndefs : ObjDesc → List Line
from_ndefs d = flat_map (def_lines Nonpkgdef) d.ndefs ++ from_refs d

abbrev pub from_hashed : ObjDesc → List Line
from_hashed d = flat_map (def_lines Hasheddef) d.hashed ++ from_ndefs d

abbrev pub from_hash64 : ObjDesc → List Line
from_hash64 d = flat_map (def_lines Hashed64def) d.hash64 ++ from_hashed d

abbrev pub from_defs : ObjDesc → List Line
from_defs d = flat_map (def_lines Symdef) d.defs ++ from_hash64 d

abbrev pub from_files : ObjDesc → List Line
from_files d = map Source d.files ++ from_defs d

abbrev pub from_pkgs : ObjDesc → List Line
from_pkgs d = map Package d.pkgs ++ from_files d

abbrev pub from_autolib : ObjDesc → List Line
from_autolib d = map Import d.autolib ++ from_pkgs d

pub lines_joined : (d : ObjDesc) → lines_of d ≡ Header d.flags d.fingerprint ∷ from_autolib d
unfolding lines_of
lines_joined d = refl

ready_names : (d : ObjDesc) → IsReady known_nothing 11 (from_names d)
unfolding fits_width width_after
ready_names d =
    subst (IsReady known_nothing 11) (append-nil (map Named d.ref_names))
    (ready_map known_nothing RefName 11 Named placed_name (λ x. refl) (λ x width. refl) (λ x width. refl) d.ref_names [] (ready_none known_nothing 11))

ready_flags : (d : ObjDesc) → IsReady known_nothing 10 (from_flags d)
unfolding fits_width width_after
ready_flags d = ready_map known_nothing RefFlags 10 Flags placed_flags (λ x. refl) (λ x width. refl) (λ x width. refl) d.ref_flags (from_names d) (ready_less known_nothing 10 11 (from_names d) (omega arith) (ready_names d))

ready_refs : (d : ObjDesc) → IsReady known_nothing 9 (from_refs d)
unfolding fits_width width_after
ready_refs d = ready_map known_nothing Ref 9 Reference placed_ref (λ x. refl) (λ x width. refl) (λ x width. refl) d.refs (from_flags d) (ready_less known_nothing 9 10 (from_flags d) (omega arith) (ready_flags d))

ready_ndefs : (d : ObjDesc) → IsReady known_nothing 8 (from_ndefs d)
ready_ndefs d = ready_defs known_nothing 8 Nonpkgdef d.ndefs (from_refs d) block_ndef (all_of (IsFitting known_nothing Nonpkgdef) fitting_ndef d.ndefs) (ready_less known_nothing 8 9 (from_refs d) (omega arith) (ready_refs d))

ready_hashed : (d : ObjDesc) (n : ℕ) → 8 ≤ n → n ≤ 64 → All (λ (def : DefDesc). length def.hash ≡ n) d.hashed → IsReady (known_length n) 7 (from_hashed d)
ready_hashed d n low high same =
    let fitting : All (IsFitting (known_length n) Hasheddef) d.hashed = λ k x inside. fitting_hash n low high _ (same k x inside) in
    ready_defs (known_length n) 7 Hasheddef d.hashed (from_ndefs d) block_hash fitting (λ stage some few sure. ready_ndefs d stage some (omega arith) tt)

ready_hash64 : (d : ObjDesc) → IsPrintable d → IsReady known_none 6 (from_hash64 d)
ready_hash64 d h =
    let long = h.long_hashes in
    let rest : IsReady known_none 6 (from_hashed d) = λ stage some few sure. ready_hashed d long.0 long.1 long.2 long.3 stage some (omega arith) (rw sure ((first_width long.0 long.1 long.2).0)) in
    ready_defs known_none 6 Hashed64def d.hash64 (from_hashed d) block_hash64 (all_of (IsFitting known_none Hashed64def) fitting_hash64 d.hash64) rest

ready_plain : (d : ObjDesc) → IsPrintable d → IsReady known_none 5 (from_defs d)
ready_plain d h = ready_defs known_none 5 Symdef d.defs (from_hash64 d) block_def (all_of (IsFitting known_none Symdef) fitting_def d.defs) (ready_less known_none 5 6 (from_hash64 d) (omega arith) (ready_hash64 d h))

ready_files : (d : ObjDesc) → IsPrintable d → IsReady known_none 4 (from_files d)
unfolding fits_width width_after
ready_files d h = ready_map known_none File 4 Source placed_file (λ x. refl) (λ x width. refl) (λ x width. refl) d.files (from_defs d) (ready_less known_none 4 5 (from_defs d) (omega arith) (ready_plain d h))

ready_pkgs : (d : ObjDesc) → IsPrintable d → IsReady known_none 3 (from_pkgs d)
unfolding fits_width width_after
ready_pkgs d h = ready_map known_none Pkg 3 Package placed_pkg (λ x. refl) (λ x width. refl) (λ x width. refl) d.pkgs (from_files d) (ready_less known_none 3 4 (from_files d) (omega arith) (ready_files d h))

ready_autolib : (d : ObjDesc) → IsPrintable d → IsReady known_none 2 (from_autolib d)
unfolding fits_width width_after
ready_autolib d h = ready_map known_none Autolib 2 Import placed_autolib (λ x. refl) (λ x width. refl) (λ x width. refl) d.autolib (from_pkgs d) (ready_less known_none 2 3 (from_pkgs d) (omega arith) (ready_pkgs d h))

header_comes : (flags : ℕ) (fingerprint : List ℕ) → MayCome at_start (Header flags fingerprint)
unfolding begins_well is_ordered has_room fits_width rank
header_comes flags fingerprint = record { begun = refl; sorted = refl; placed = refl; sized = refl }

-- the lines of a printable description
pub lines_run : (d : ObjDesc) → IsPrintable d → IsRun at_start (lines_of d)
unfolding after rank_after part_after width_after rank
lines_run d h =
    subst (IsRun at_start) (sym (lines_joined d))
    (header_comes d.flags d.fingerprint, ready_autolib d h (after at_start (Header d.flags d.fingerprint)) (omega arith) (omega arith) refl)
