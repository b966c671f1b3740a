-- The program's messages on the standard error.
use Rattle.std.specs.Prelude.{◌≡◌, refl, ℕ, zero, ◌==◌, List, [], ◌++◌, codes, decimal, if◌then◌else◌, Option, Some, None}
use Rattle.std.specs.Fmt.{digits}
use Rattle.dictionaries.specs.declared.fault.DictFault.{DictFault}
use Rattle.dictionaries.specs.declared.fault.DictFault.TheVariants as grammar
use Rattle.schema_read.specs.Keys.{key_name}
use Rattle.schema_read.specs.declared.fault.Expected.{Expected}
use Rattle.schema_read.specs.declared.fault.Expected.TheVariants.{Whole, TextValue, Flag, DelimiterName, TableList, TwoWholes, KindName, LeafName, DateText, TextList, Wholes, PartList, WindowValue, InsertValue, DeleteName, DealName, NoSuchKey}
use Rattle.pd_outside.specs.declared.faults.ReadFault.{ReadFault}
use Rattle.pd_outside.specs.declared.faults.ReadFault.TheVariants as reading
use Rattle.schema_check.specs.declared.checker.CheckFault.TheVariants as check
use Rattle.schema_read.specs.declared.fault.Place.{Place}
use Rattle.schema_read.specs.declared.read.ReadSchemaFault.{ReadSchemaFault}
use Rattle.schema_read.specs.declared.read.ReadSchemaFault.TheVariants as schema
use Rattle.schema_read.specs.declared.schema_key.SchemaKey.{SchemaKey}
use Rattle.schema_read.specs.declared.schema_key.SchemaKey.TheVariants.{Units, Window, Other}
use Rattle.stream_apply.specs.declared.fault.ApplyFault.{ApplyFault}
use Rattle.stream_apply.specs.declared.fault.ApplyFault.TheVariants as applying
use Rattle.refusals.specs.declared.refusal.Refusal.{Refusal}
use Rattle.refusals.specs.declared.refusal.Refusal.TheVariants.{Words, Job}
use Rattle.refusals.specs.declared.refusal.DetailsCause.{DetailsCause}
use Rattle.refusals.specs.declared.refusal.DetailsCause.TheVariants as details
use Rattle.refusals.specs.declared.refusal.LineReason.{LineReason}
use Rattle.refusals.specs.declared.refusal.LineReason.TheVariants as reason
use Rattle.refusals.specs.declared.refusal.DictionaryCause.{DictionaryCause}
use Rattle.refusals.specs.declared.refusal.DictionaryCause.TheVariants as cause
use Rattle.refusals.specs.declared.refusal.InputCause.{InputCause}
use Rattle.refusals.specs.declared.refusal.InputCause.TheVariants as input
use Rattle.refusals.specs.declared.refusal.JobFault.{JobFault}
use Rattle.refusals.specs.declared.refusal.JobFault.TheVariants as job
use Rattle.refusals.specs.declared.refusal.PlanFault.{PlanFault}
use Rattle.refusals.specs.declared.refusal.PlanFault.TheVariants as plan
use Rattle.request_words.specs.declared.usage.OptionName.{OptionName}
use Rattle.request_words.specs.declared.usage.OptionName.TheVariants as option
use Rattle.request_words.specs.declared.usage.UsageFault.{UsageFault}
use Rattle.request_words.specs.declared.usage.UsageFault.TheVariants as usage
use Rattle.request_words.specs.Options.{word_of}

-- ---- the words of messages

-- an option as it is written among the words
abbrev pub dashed_text : OptionName → List ℕ
dashed_text name = codes "--" ++ word_of name

abbrev pub option_text : OptionName → List ℕ
option_text option.Schema = codes "SCHEMA"
option_text name = dashed_text name

-- what is wrong with the words (want of memory never comes as a refusal: it tells what it is)
abbrev pub usage_text : UsageFault → List ℕ
usage_text usage.Words = codes "usage: bad words"
usage_text usage.Mode = codes "usage: unknown mode"
usage_text (usage.Unwanted name) = codes "usage: unwanted " ++ option_text name
usage_text (usage.Missing name) = codes "usage: missing " ++ option_text name
usage_text (usage.Number name) = codes "usage: bad number for " ++ option_text name
usage_text (usage.EmptyDirectory name) = codes "usage: empty directory for " ++ option_text name
usage_text usage.Format = codes "usage: bad format"
usage_text usage.Header = codes "usage: bad header"
usage_text usage.Memory = codes "out of memory"

-- a place of a schema: a table, a column and a branch, each counted from 1, or 0 where the place isn't inside one
abbrev pub place_text : ℕ → ℕ → ℕ → List ℕ
place_text zero column branch = codes "top"
place_text table zero branch = codes "table " ++ decimal table
place_text table column zero = codes "table " ++ decimal table ++ codes " column " ++ decimal column
place_text table column branch =
    codes "table " ++ decimal table ++ codes " column " ++ decimal column ++ codes " branch " ++ decimal branch

-- the type of value that a key wants; a key that has no place where it stands wants none
abbrev pub expected_text : Expected → List ℕ
expected_text Whole = codes "whole number"
expected_text TextValue = codes "text"
expected_text Flag = codes "true or false"
expected_text DelimiterName = codes "\"tab\" or \"bar\""
expected_text TableList = codes "list of tables"
expected_text TwoWholes = codes "two whole numbers"
expected_text KindName = codes "name of a kind"
expected_text LeafName = codes "name of a leaf kind"
expected_text DateText = codes "date YYYY-MM-DD"
expected_text TextList = codes "list of texts"
expected_text Wholes = codes "list of whole numbers"
expected_text PartList = codes "list of texts and cited columns"
expected_text WindowValue = codes "whole number or \"all\""
expected_text InsertValue = codes "whole number or list of pairs"
expected_text DeleteName = codes "\"cascade\" or \"null\""
expected_text DealName = codes "\"turn\" or \"drawn\""
expected_text NoSuchKey = codes "no such key"

-- a key and what it wants, after its place
abbrev pub wanted_text : SchemaKey → Expected → List ℕ
wanted_text key expected = codes " key " ++ key_name key ++ codes ": expected " ++ expected_text expected

-- what is wrong at a key, after its place
abbrev pub key_text : SchemaKey → Expected → List ℕ
key_text Other expected = codes ": no such key"
key_text key expected = wanted_text key expected

-- a wrong key at its place
abbrev pub shape_text : Place → SchemaKey → Expected → List ℕ
shape_text place key expected =
    codes "schema: " ++ place_text place.table place.column place.branch ++ key_text key expected

-- a broken rule at its place
abbrev pub rule_text : ℕ → ℕ → ℕ → List ℕ
rule_text number table column = codes "rule V" ++ decimal number ++ codes " at " ++ place_text table column 0

-- the words of each stage's faults
abbrev pub schema_fault_text : ReadSchemaFault → List ℕ
schema_fault_text schema.Syntax = codes "schema: not TOML"
schema_fault_text (schema.Shape place key expected) = shape_text place key expected
schema_fault_text schema.Memory = codes "out of memory"
schema_fault_text schema.ParseMemory = codes "out of memory"

-- what is wrong with a dictionary's bytes, after its number
abbrev pub grammar_text : DictFault → List ℕ
grammar_text (grammar.NotUtf8 at) = codes ": not UTF-8 at byte " ++ decimal at
grammar_text (grammar.LongEntry line) = codes ": long entry at line " ++ decimal line
grammar_text (grammar.BadWeight line) = codes ": bad weight at line " ++ decimal line
grammar_text (grammar.TooMany line) = codes ": too many entries at line " ++ decimal line
grammar_text grammar.Empty = codes ": empty"
grammar_text grammar.Memory = codes ": out of memory"

-- a dictionary by its number, and what is wrong with its bytes
abbrev pub broken_text : ℕ → DictFault → List ℕ
broken_text number fault = codes "dictionary " ++ decimal number ++ grammar_text fault

-- why the bytes of the dictionary of this number give none
abbrev pub grammar_fault_text : ℕ → DictFault → List ℕ
grammar_fault_text number grammar.Memory = codes "out of memory"
grammar_fault_text number fault = broken_text number fault

-- why the dictionary of this number wasn't read
abbrev pub reading_dictionary_text : ℕ → ReadFault → List ℕ
reading_dictionary_text number reading.Failed = codes "read failed"
reading_dictionary_text number reading.TooLong = codes "too long: dictionary " ++ decimal number
reading_dictionary_text number reading.Memory = codes "out of memory"

abbrev pub cause_text : ℕ → DictionaryCause → List ℕ
cause_text number (cause.Reading fault) = reading_dictionary_text number fault
cause_text number (cause.Grammar fault) = grammar_fault_text number fault
cause_text number cause.Memory = codes "out of memory"

-- why a schema's text wasn't read
abbrev pub reading_text : ReadFault → List ℕ
reading_text reading.Failed = codes "read failed"
reading_text reading.TooLong = codes "too long: schema"
reading_text reading.Memory = codes "out of memory"

abbrev pub plan_fault_text : PlanFault → List ℕ
plan_fault_text (plan.Reading fault) = reading_text fault
plan_fault_text (plan.Schema fault) = schema_fault_text fault
plan_fault_text (plan.Dictionary fault) = cause_text fault.number fault.cause
plan_fault_text (plan.Check (check.Rule number table column)) = rule_text number table column
plan_fault_text (plan.Check check.Memory) = codes "out of memory"

-- why the file of this name wasn't read
abbrev pub reading_input_text : List ℕ → ReadFault → List ℕ
reading_input_text file reading.Failed = codes "read failed"
reading_input_text file reading.TooLong = codes "too long: " ++ file
reading_input_text file reading.Memory = codes "out of memory"

-- what was done with a file, a line of it by its number, and what is wrong with it
abbrev pub line_fault_text : List ℕ → List ℕ → ℕ → List ℕ → List ℕ
line_fault_text verb file number words = verb ++ file ++ codes " line " ++ decimal number ++ codes ": " ++ words

-- why the bytes of the file of this name aren't applied
abbrev pub applying_text : List ℕ → ApplyFault → List ℕ
applying_text file (applying.BadLine line) = line_fault_text (codes "apply: ") file line (codes "bad line")
applying_text file (applying.DoubleKey line) = line_fault_text (codes "apply: ") file line (codes "double key")
applying_text file (applying.NoSuchKey line) = line_fault_text (codes "apply: ") file line (codes "no such key")
applying_text file (applying.KeyExists line) = line_fault_text (codes "apply: ") file line (codes "key exists")
applying_text file applying.Memory = codes "out of memory"

-- why a line isn't undone
abbrev pub reason_text : LineReason → List ℕ
reason_text reason.BadLine = codes "bad line"
reason_text reason.DoubleKey = codes "double key"
reason_text reason.NoSuchKey = codes "no such key"
reason_text reason.KeyExists = codes "key exists"
reason_text reason.BadPlace = codes "bad place"

-- why the file of this name isn't applied
abbrev pub input_text : List ℕ → InputCause → List ℕ
input_text file (input.Reading fault) = reading_input_text file fault
input_text file (input.Applying fault) = applying_text file fault
input_text file (input.BadRecord number) = line_fault_text (codes "apply: ") file number (codes "bad record")
input_text file (input.Reverting fault) = line_fault_text (codes "revert: ") file fault.line (reason_text fault.reason)

-- why the file that declares a detail table wasn't read
abbrev pub reading_details_text : ReadFault → List ℕ
reading_details_text reading.Failed = codes "read failed"
reading_details_text reading.TooLong = codes "too long: details"
reading_details_text reading.Memory = codes "out of memory"

-- why it gives none
abbrev pub details_text : DetailsCause → List ℕ
details_text (details.Reading fault) = reading_details_text fault
details_text details.Syntax = codes "details: not TOML"
details_text details.WrongForm = codes "details: wrong form"
details_text (details.Dictionary fault) = cause_text fault.number fault.cause
details_text (details.Rule number) = codes "rule E" ++ decimal number
details_text details.Memory = codes "out of memory"

abbrev pub job_fault_text : JobFault → List ℕ
job_fault_text (job.Plan fault) = plan_fault_text fault
job_fault_text (job.Range name) = codes "out of range: " ++ option_text name
job_fault_text (job.Input fault) = input_text fault.file fault.cause
job_fault_text (job.Details cause) = details_text cause
job_fault_text job.Memory = codes "out of memory"

-- the words of a refusal
abbrev pub refusal_text : Refusal → List ℕ
refusal_text (Words fault) = usage_text fault
refusal_text (Job fault) = job_fault_text fault

-- ---- messages

-- a message: the program's name and these words, on a line
abbrev pub message_line : List ℕ → List ℕ
message_line words = codes "pdgf: " ++ words ++ codes "\n"

-- the message of a refusal
abbrev pub message_of : Refusal → List ℕ
message_of refusal = message_line (refusal_text refusal)

-- the message of a failed write
abbrev pub write_failed_text : List ℕ
write_failed_text = message_line (codes "write failed")

-- the message of a store that failed
abbrev pub keeper_failed_text : List ℕ
keeper_failed_text = message_line (codes "keeper failed")

-- the messages of files that are too long
abbrev pub schema_too_long_text : List ℕ
schema_too_long_text = message_line (codes "too long: schema")

abbrev pub dictionary_too_long_text : ℕ → List ℕ
dictionary_too_long_text number = message_line (codes "too long: dictionary " ++ decimal number)

abbrev pub details_too_long_text : List ℕ
details_too_long_text = message_line (codes "too long: details")

abbrev pub input_too_long_text : List ℕ → List ℕ
input_too_long_text file = message_line (codes "too long: " ++ file)

-- the message of a status that has only one
abbrev pub fixed_text : ℕ → Option (List ℕ)
fixed_text status =
    if status == 0 then Some [] else
    (if status == 5 then Some (message_line (codes "read failed")) else
    (if status == 6 then Some write_failed_text else
    (if status == 7 then Some (message_line (codes "out of memory")) else
    (if status == 12 then Some keeper_failed_text else None))))

-- ---- worked messages

worked_usage : message_of (Words (usage.Missing option.Unit)) ≡ codes "pdgf: usage: missing --unit\n"
worked_usage = refl

worked_top : message_of (Job (job.Plan (plan.Schema (schema.Shape (record { table = 0; column = 0; branch = 0 }) Units Whole)))) ≡ codes "pdgf: schema: top key units: expected whole number\n"
worked_top = refl

worked_column : message_of (Job (job.Plan (plan.Schema (schema.Shape (record { table = 2; column = 2; branch = 0 }) Window WindowValue)))) ≡ codes "pdgf: schema: table 2 column 2 key window: expected whole number or \"all\"\n"
unfolding digits
worked_column = refl

worked_branch : message_of (Job (job.Plan (plan.Schema (schema.Shape (record { table = 1; column = 12; branch = 3 }) Other NoSuchKey)))) ≡ codes "pdgf: schema: table 1 column 12 branch 3: no such key\n"
unfolding digits
worked_branch = refl

worked_rule : message_of (Job (job.Plan (plan.Check (check.Rule 19 2 2)))) ≡ codes "pdgf: rule V19 at table 2 column 2\n"
unfolding digits
worked_rule = refl

worked_rule_of_a_table : message_of (Job (job.Plan (plan.Check (check.Rule 3 2 0)))) ≡ codes "pdgf: rule V3 at table 2\n"
unfolding digits
worked_rule_of_a_table = refl

worked_range : message_of (Job (job.Range option.Unit)) ≡ codes "pdgf: out of range: --unit\n"
worked_range = refl

worked_dictionary : message_of (Job (job.Plan (plan.Dictionary (record { number = 1; cause = cause.Grammar (grammar.BadWeight 12) })))) ≡ codes "pdgf: dictionary 1: bad weight at line 12\n"
unfolding digits
worked_dictionary = refl

worked_empty_dictionary : message_of (Job (job.Plan (plan.Dictionary (record { number = 10; cause = cause.Grammar grammar.Empty })))) ≡ codes "pdgf: dictionary 10: empty\n"
unfolding digits
worked_empty_dictionary = refl

worked_long_dictionary : message_of (Job (job.Plan (plan.Dictionary (record { number = 2; cause = cause.Reading reading.TooLong })))) ≡ codes "pdgf: too long: dictionary 2\n"
unfolding digits
worked_long_dictionary = refl

worked_input : message_of (Job (job.Input (record { file = codes "customer.3.ins"; cause = input.Applying (applying.KeyExists 12) }))) ≡ codes "pdgf: apply: customer.3.ins line 12: key exists\n"
unfolding digits
worked_input = refl

worked_undone_input : message_of (Job (job.Input (record { file = codes "customer.3.undo"; cause = input.Reverting (record { line = 3; reason = reason.BadPlace }) }))) ≡ codes "pdgf: revert: customer.3.undo line 3: bad place\n"
unfolding digits
worked_undone_input = refl

worked_details_rule : message_of (Job (job.Details (details.Rule 3))) ≡ codes "pdgf: rule E3\n"
unfolding digits
worked_details_rule = refl

worked_dictionary_of_details : message_of (Job (job.Details (details.Dictionary (record { number = 2; cause = cause.Grammar (grammar.BadWeight 1) })))) ≡ codes "pdgf: dictionary 2: bad weight at line 1\n"
unfolding digits
worked_dictionary_of_details = refl

worked_long_input : message_of (Job (job.Input (record { file = codes "customer.tbl"; cause = input.Reading reading.TooLong }))) ≡ codes "pdgf: too long: customer.tbl\n"
worked_long_input = refl
