-- A stated failure as this crate keeps it.
use Rattle.std.specs.Prelude.{string_bytes}
use Rattle.pd_outside.specs.StatedFails.{NameAndCall}
use Rattle.pd_outside.specs.declared.fails.NamedCall.{NamedCall}

abbrev pub name_and_call : NamedCall → NameAndCall
name_and_call fail = record { name = string_bytes fail.name; call = fail.call }
