-- What an object says, as a description: its records, in the definitions of the object's bytes.
use Rattle.std.specs.Prelude.{ℕ, ◌+◌, ◌-◌, List, [], map}
use Rattle.std.specs.List.{range_with_len}
use Rattle.glk_obj.specs.Blocks.{count, autolib, pkg_idx, file, symdef, hashed64def, hasheddef, nonpkgdef, nonpkgref, ref_flags, ref_name}
use Rattle.glk_obj.specs.Records.{Symbol, SymbolRef, Reloc, Aux, AutolibEntry, RefFlag, fingerprint, flags, definitions, symbol_at, data_at, reloc_count, reloc_at, aux_count, aux_at, autolib_at, pkg_at, file_at, ref_flags_at, hash64_at, hash_at, ref_at, text_at, ref_name_offset}
use Rattle.glk_obj.specs.declared.records.SymRef.{SymRef}
use Rattle.glk_obj.specs.declared.records.RelocRec.{RelocRec}
use Rattle.glk_obj.specs.declared.records.AuxRec.{AuxRec}
use Rattle.glk_obj.specs.declared.records.RefFlagsRec.{RefFlagsRec}
use Rattle.glk_objdesc.specs.declared.desc.AutolibDesc.{AutolibDesc}
use Rattle.glk_objdesc.specs.declared.desc.SymDesc.{SymDesc}
use Rattle.glk_objdesc.specs.declared.desc.DefDesc.{DefDesc}
use Rattle.glk_objdesc.specs.declared.desc.RefNameDesc.{RefNameDesc}
use Rattle.glk_objdesc.specs.declared.desc.ObjDesc.{ObjDesc}

-- what f gives for each of n numbers, from a number on
abbrev pub each_from : {X : Type 0} → (ℕ → X) → ℕ → ℕ → List X
each_from f from n = map f (range_with_len from n)

-- The records as parts of descriptions.

abbrev pub ref_desc : SymbolRef → SymRef
ref_desc r = record { pkg = r.pkg; sym = r.sym }

abbrev pub autolib_desc : AutolibEntry → AutolibDesc
autolib_desc a = record { path = a.path; fingerprint = a.fingerprint }

abbrev pub symbol_desc : Symbol → SymDesc
symbol_desc s = record { name = s.name; abi = s.abi; kind = s.kind; flag = s.flag; flag2 = s.flag2; size = s.size; align = s.align }

abbrev pub reloc_desc : Reloc → RelocRec
reloc_desc r = record { off = r.off; size = r.size; kind = r.kind; add = r.add; target = ref_desc r.target }

abbrev pub aux_desc : Aux → AuxRec
aux_desc a = record { kind = a.kind; target = ref_desc a.target }

abbrev pub ref_flags_desc : RefFlag → RefFlagsRec
ref_flags_desc r = record { target = ref_desc r.target; flag = r.flag; flag2 = r.flag2 }

-- The parts that each definition has, of local index i.

unfoldable pub relocs_of : List ℕ → ℕ → List RelocRec
relocs_of b i = each_from (λ k. reloc_desc (reloc_at b i k)) 0 (reloc_count b i)

unfoldable pub auxes_of : List ℕ → ℕ → List AuxRec
auxes_of b i = each_from (λ k. aux_desc (aux_at b i k)) 0 (aux_count b i)

abbrev pub def_desc : List ℕ → ℕ → List ℕ → DefDesc
def_desc b i hash = record {
  sym = symbol_desc (symbol_at b i);
  hash = hash;
  content = data_at b i;
  relocs = relocs_of b i;
  auxes = auxes_of b i;
}

-- Record k of RefName: a symbol of another package, and its name.
unfoldable pub ref_name_desc : List ℕ → ℕ → RefNameDesc
ref_name_desc b k = record {
  target = ref_desc (ref_at b (ref_name_offset b k));
  name = text_at b (ref_name_offset b k + 8);
}

-- Local indices run through the blocks of symbols: this is the first one in each block.

abbrev pub first_hash64 : List ℕ → ℕ
first_hash64 b = count b symdef

abbrev pub first_hashed : List ℕ → ℕ
first_hashed b = first_hash64 b + count b hashed64def

abbrev pub first_ndef : List ℕ → ℕ
first_ndef b = first_hashed b + count b hasheddef

abbrev pub first_ref : List ℕ → ℕ
first_ref b = definitions b

-- The parts of a description.

abbrev pub autolib_of : List ℕ → List AutolibDesc
autolib_of b = each_from (λ k. autolib_desc (autolib_at b k)) 0 (count b autolib)

-- entry 0 of PkgIdx is no package, whatever it holds
abbrev pub pkgs_of : List ℕ → List (List ℕ)
pkgs_of b = each_from (pkg_at b) 1 (count b pkg_idx - 1)

abbrev pub files_of : List ℕ → List (List ℕ)
files_of b = each_from (file_at b) 0 (count b file)

-- n definitions without a hash, from a local index on
abbrev pub plain_from : List ℕ → ℕ → ℕ → List DefDesc
plain_from b first n = each_from (λ k. def_desc b (first + k) []) 0 n

-- the definitions by short and by long hashes, from a local index on

abbrev pub hash64_from : List ℕ → ℕ → List DefDesc
hash64_from b first = each_from (λ k. def_desc b (first + k) (hash64_at b k)) 0 (count b hashed64def)

abbrev pub hashed_from : List ℕ → ℕ → List DefDesc
hashed_from b first = each_from (λ k. def_desc b (first + k) (hash_at b k)) 0 (count b hasheddef)

abbrev pub refs_of : List ℕ → List SymDesc
refs_of b = each_from (λ k. symbol_desc (symbol_at b (first_ref b + k))) 0 (count b nonpkgref)

abbrev pub ref_flags_of : List ℕ → List RefFlagsRec
ref_flags_of b = each_from (λ k. ref_flags_desc (ref_flags_at b k)) 0 (count b ref_flags)

abbrev pub ref_names_of : List ℕ → List RefNameDesc
ref_names_of b = each_from (ref_name_desc b) 0 (count b ref_name)

-- All that the object says.
unfoldable pub description_of : List ℕ → ObjDesc
description_of b = record {
  flags = flags b;
  fingerprint = fingerprint b;
  autolib = autolib_of b;
  pkgs = pkgs_of b;
  files = files_of b;
  defs = each_from (λ i. def_desc b i []) 0 (count b symdef);
  hash64 = hash64_from b (first_hash64 b);
  hashed = hashed_from b (first_hashed b);
  ndefs = plain_from b (first_ndef b) (count b nonpkgdef);
  refs = refs_of b;
  ref_flags = ref_flags_of b;
  ref_names = ref_names_of b;
}
