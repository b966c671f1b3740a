use Rattle.draw_values.proofs.UuidLemmas.{escaped_text-uuid_text, length-uuid_text, parsed-uuid_text, variant-uuid_bytes, version-uuid_bytes}
use Rattle.draw_values.proofs.laws.uuids_are_of_version_4.Goals as goal

pub returns-clause-version : goal.returns-clause-version
returns-clause-version c = version-uuid_bytes

pub returns-clause-variant : goal.returns-clause-variant
returns-clause-variant c = variant-uuid_bytes

pub returns-clause-text : goal.returns-clause-text
returns-clause-text c = parsed-uuid_text

pub returns-clause-size : goal.returns-clause-size
returns-clause-size c = length-uuid_text

pub returns-clause-written : goal.returns-clause-written
returns-clause-written c = escaped_text-uuid_text
