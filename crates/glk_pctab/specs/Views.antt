-- The code's types as what contracts speak of.
use Rattle.std.specs.Prelude.{ℕ, List, map, get_or}
use denote.Ref.{Bor}
use Rattle.glk_pctab.specs.declared.function.InlinedCall.{InlinedCall as CallValue}
use Rattle.glk_pctab.specs.declared.function.Function.{Function as FunctionValue}
use Rattle.glk_pctab.specs.declared.function.Pclntab.{Pclntab as PclntabValue}
use Rattle.glk_pctab.specs.Functions.{InlinedCall, Function, Pclntab}

-- byte strings that are borrowed
abbrev pub texts_of : List (Bor (List ℕ)) → List (List ℕ)
texts_of bs = map (λ (b : Bor (List ℕ)). b.now) bs

abbrev pub call_view : CallValue → InlinedCall
call_view c = record { node = record { name = c.name.now; parent = c.parent }; id = c.id; start_line = c.start_line }

abbrev pub calls_view : List CallValue → List InlinedCall
calls_view cs = map call_view cs

abbrev pub function_view : FunctionValue → Function
function_view f = record {
  name = f.name.now;
  unit = f.unit;
  start = f.start;
  args = f.args;
  deferreturn = f.deferreturn;
  start_line = f.start_line;
  id = f.id;
  flag = f.flag;
  pcsp = f.pcsp.now;
  pcfile = f.pcfile.now;
  pcline = f.pcline.now;
  pcinline = f.pcinline.now;
  inlined = calls_view f.inlined.now;
  pcdata = texts_of f.pcdata.now;
  funcdata = f.funcdata.now;
}

abbrev pub functions_view : List FunctionValue → List Function
functions_view fs = map function_view fs

abbrev pub units_view : List (Bor (List (Bor (List ℕ)))) → List (List (List ℕ))
units_view us = map (λ (u : Bor (List (Bor (List ℕ)))). texts_of u.now) us

abbrev pub view : PclntabValue → Pclntab
view t = record { functions = functions_view t.functions.now; units = units_view t.units.now; text = t.text; text_size = t.text_size; trees = t.trees }

-- starts as a function
abbrev pub start_by : List ℕ → ℕ → ℕ
start_by starts j = get_or starts j 0
