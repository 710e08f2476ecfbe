-- A function with an inlined call and a file: sixteen bytes, all of them inlined.
use Rattle.std.specs.Prelude.{ℕ, List, [], ◌∷◌, pos}
use Rattle.glk_pctab.specs.Functions.{Pclntab, Function, InlinedCall}

-- the call of `g`, at offset 20
abbrev pub one_call : InlinedCall
one_call = record { node = record { name = 103 ∷ []; parent = pos 20 }; id = 0; start_line = 1 }

-- the pc table that is 0 for sixteen bytes
abbrev pub one_table : List ℕ
one_table = 2 ∷ 16 ∷ 0 ∷ []

-- the function `f`: its bytes are of file 0, and of inlined call 0
abbrev pub one_function : Function
one_function = record { name = 102 ∷ []; unit = 0; start = 0; args = 0; deferreturn = 0; start_line = 1; id = 0; flag = 0; pcsp = []; pcfile = one_table; pcline = []; pcinline = one_table; inlined = one_call ∷ []; pcdata = []; funcdata = [] }

-- with the one file `a`
abbrev pub one_pclntab : Pclntab
one_pclntab = record { functions = one_function ∷ []; units = ((97 ∷ []) ∷ []) ∷ []; text = 4096; text_size = 16; trees = 0 }
