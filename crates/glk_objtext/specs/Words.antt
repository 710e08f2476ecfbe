-- The words that lines begin with.
use Rattle.std.specs.Prelude.{ℕ, List, ◌∷◌, [], if◌then◌else◌, Result, Ok, Err, codes}
use Rattle.std.specs.Str.{bytes_eq}
use Rattle.glk_objtext.specs.Answers.{unknown_word}
use Rattle.glk_objtext.specs.declared.words.Word.{Word}
use Rattle.glk_objtext.specs.declared.words.Word.TheVariants.{Object, Autolib, Pkg, File, Def, Hash64, Hash, Data, Reloc, Aux, Ndef, Ref, RefFlags, RefName}

-- how a word is spelled
unfoldable pub spelling : Word → List ℕ
spelling Object = codes "object"
spelling Autolib = codes "autolib"
spelling Pkg = codes "pkg"
spelling File = codes "file"
spelling Def = codes "def"
spelling Hash64 = codes "hash64"
spelling Hash = codes "hash"
spelling Data = codes "data"
spelling Reloc = codes "reloc"
spelling Aux = codes "aux"
spelling Ndef = codes "ndef"
spelling Ref = codes "ref"
spelling RefFlags = codes "refflags"
spelling RefName = codes "refname"

-- all words
abbrev pub words : List Word
words = Object ∷ Autolib ∷ Pkg ∷ File ∷ Def ∷ Hash64 ∷ Hash ∷ Data ∷ Reloc ∷ Aux ∷ Ndef ∷ Ref ∷ RefFlags ∷ RefName ∷ []

-- the first of these words that is spelled so
unfoldable pub word_among : List Word → List ℕ → Result Word ℕ
word_among [] field = Err unknown_word
word_among (w ∷ ws) field = if bytes_eq field (spelling w) then Ok w else word_among ws field

-- the word that is spelled so
abbrev pub word_of : List ℕ → Result Word ℕ
word_of field = word_among words field

-- how many fields follow a word
unfoldable pub arity : Word → ℕ
arity Object = 2
arity Autolib = 2
arity Pkg = 1
arity File = 1
arity Def = 7
arity Hash64 = 8
arity Hash = 8
arity Data = 1
arity Reloc = 5
arity Aux = 2
arity Ndef = 7
arity Ref = 7
arity RefFlags = 3
arity RefName = 2

-- the rank of the lines of a word among the others, from 1; those of the parts of a definition have
-- none of their own
unfoldable pub rank : Word → ℕ
rank Object = 1
rank Autolib = 2
rank Pkg = 3
rank File = 4
rank Def = 5
rank Hash64 = 6
rank Hash = 7
rank Data = 0
rank Reloc = 0
rank Aux = 0
rank Ndef = 8
rank Ref = 9
rank RefFlags = 10
rank RefName = 11
