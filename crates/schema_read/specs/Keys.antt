-- The keys of a schema's text, as they are written.
use Rattle.std.specs.Prelude.{ℕ, List, Bool, codes}
use Rattle.std.specs.List.{list_any}
use Rattle.schema_read.specs.Document.{same_bytes}
use Rattle.schema_read.specs.declared.schema_key.SchemaKey.{SchemaKey}
use Rattle.schema_read.specs.declared.schema_key.SchemaKey.TheVariants.{Seed, Units, Delimiter, Table, Name, Rows, Insert, Life, Update, Column, Kind, Changes, Null, Base, Scramble, Lo, Hi, Step, Decimals, Entries, Weights, Size, Power, File, Alphabet, Parts, On, Branches, Window, Spread, OnDelete, Via, Start, Width, Deal, Of, Parent, Other}

abbrev pub key_name : SchemaKey → List ℕ
key_name Seed = codes "seed"
key_name Units = codes "units"
key_name Delimiter = codes "delimiter"
key_name Table = codes "table"
key_name Name = codes "name"
key_name Rows = codes "rows"
key_name Insert = codes "insert"
key_name Life = codes "life"
key_name Update = codes "update"
key_name Column = codes "column"
key_name Kind = codes "kind"
key_name Changes = codes "changes"
key_name Null = codes "null"
key_name Base = codes "base"
key_name Scramble = codes "scramble"
key_name Lo = codes "lo"
key_name Hi = codes "hi"
key_name Step = codes "step"
key_name Decimals = codes "decimals"
key_name Entries = codes "entries"
key_name Weights = codes "weights"
key_name Size = codes "size"
key_name Power = codes "power"
key_name File = codes "file"
key_name Alphabet = codes "alphabet"
key_name Parts = codes "parts"
key_name On = codes "on"
key_name Branches = codes "branches"
key_name Window = codes "window"
key_name Spread = codes "spread"
key_name OnDelete = codes "on_delete"
key_name Via = codes "via"
key_name Start = codes "start"
key_name Width = codes "width"
key_name Deal = codes "deal"
key_name Of = codes "of"
key_name Parent = codes "parent"
key_name Other = codes ""

-- a key of a table is one of these
abbrev pub is_among : List SchemaKey → List ℕ → Bool
is_among keys name = list_any (λ k. same_bytes (key_name k) name) keys
