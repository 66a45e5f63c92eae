-- The check finds this with no answer too; with one, it refuses a wrong body sooner.
use Rattle.std.proofs.Common.{rules}
use Rattle.jser_reader.proofs.OwnerLemmas.{array_owned, class_owned, constant_owned, object_owned}
use Rattle.jser_reader.proofs.machine.Machine.begin_known_owner.Goals as goal

pub returns-in-Object : goal.returns-in-Object
returns-in-Object c = search (rules, object_owned)

pub returns-in-Array : goal.returns-in-Array
returns-in-Array c = search (rules, array_owned)

pub returns-in-EnumConst : goal.returns-in-EnumConst
returns-in-EnumConst c = search (rules, constant_owned)

pub returns-in-ClassObject : goal.returns-in-ClassObject
returns-in-ClassObject c = search (rules, class_owned)
