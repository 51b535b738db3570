-- The JSON object that stands in an `Object`.
use Rattle.serde_json.specs.Data.{Data, Members, object}
use Rattle.serde_json.specs.View.{members_view}
use Rattle.ba_wire.specs.declared.object.Object.{Object}

abbrev pub members_of : Object → Members
members_of it = members_view it.members.entries

abbrev pub made : Object → Data
made it = object (members_of it)
