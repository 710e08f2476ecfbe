use Rattle.std.proofs.Common.{subst, sym}
use Rattle.glk_objtext.specs.Forms.{HasFields}
use Rattle.glk_objtext.proofs.FieldSplits.{line_has_fields, fields_are}
use Rattle.glk_objtext.proofs.SortForms.{number_back, number_is, signed_back, signed_is, octets_back, octets_are, sized_back, sized_is, reference_back, reference_is}
use Rattle.glk_objtext.proofs.StringForms.{string_back, string_is}
use Rattle.glk_objtext.proofs.laws.fields_are_spelled.Goals as goal

pub returns-clause-fields : goal.returns-clause-fields
returns-clause-fields c = λ line fs. (fields_are line fs, λ e. subst (λ gs. HasFields line gs) (sym e) (line_has_fields line))

pub returns-clause-numbers : goal.returns-clause-numbers
returns-clause-numbers c = λ limit field n few. (number_back limit field n, number_is limit field n few)

pub returns-clause-signed_numbers : goal.returns-clause-signed_numbers
returns-clause-signed_numbers c = λ limit field z few. (signed_back limit field z, signed_is limit field z few)

pub returns-clause-octets : goal.returns-clause-octets
returns-clause-octets c = λ field s some. (octets_back field s some, octets_are field s)

pub returns-clause-sized : goal.returns-clause-sized
returns-clause-sized c = λ n field s some. (sized_back n field s some, sized_is n field s some)

pub returns-clause-references : goal.returns-clause-references
returns-clause-references c = λ field r. (reference_back field r, reference_is field r)

pub returns-clause-strings : goal.returns-clause-strings
returns-clause-strings c = λ field s. (string_back field s, string_is field s)
