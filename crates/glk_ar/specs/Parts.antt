-- An object that is borrowed from a body, without where it lies in memory.
use Rattle.glk_ar.specs.declared.object_parts.ObjectPart.{ObjectPart}
use Rattle.glk_ar.specs.Part.{Part}

abbrev pub part_of : ObjectPart → Part
part_of part = record { line = part.line.now; goobj = part.goobj.now; at = part.at }
