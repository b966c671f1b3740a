-- The numbers of a request are within their ranges, where its words have no fault.
use Rattle.std.proofs.Common.{◌≡◌, ℕ, zero, suc, ◌<◌, ◌≤◌, ◌&&◌, Bool, true, false, List, [], ◌∷◌, Option, None, Some, Result, Ok, Err, get_or, length, refl, sym, subst, arith}
use Rattle.std.specs.Prelude.{IfOk, IfSome, if◌then◌else◌, nat_le, unwrap_or}
use Rattle.std.specs.Option.{option_and_then, option_or}
use Rattle.std.specs.Str.Parse.{digits_value}
use Rattle.std.proofs.lemmas.Bool.{and_parts, leb-true}
use Rattle.request_words.specs.Form.{given_in, has_form, mode_in}
use Rattle.request_words.specs.Options.{Given, is_number, is_number_of, mode_named, number_for, number_given, number_or_zero, order, request_of, takes}
use Rattle.request_words.specs.Ranges.{AreWithinRanges, IsOfForm, IsTaken}
use Rattle.request_words.specs.Words.{fault_of, first_fault, of_mode, option_fault, request, unless_fault}
use Rattle.request_words.specs.declared.options.Form.TheVariants.{FromOneTo}
use Rattle.request_words.specs.declared.options.Take.TheVariants.{Needed, Optional, Preset}
use Rattle.request_words.specs.declared.usage.Mode.{Mode}
use Rattle.request_words.specs.declared.usage.Mode.TheVariants.{Check, Snapshot, Unit, Row, Apply, Sample, Play, Details, DetailsUnit, DetailsApply, Undo, Revert}
use Rattle.request_words.specs.declared.usage.OptionName.{OptionName}
use Rattle.request_words.specs.declared.usage.OptionName.TheVariants as option
use Rattle.request_words.specs.declared.usage.Request.{Request}
use Rattle.request_words.specs.declared.usage.UsageFault.{UsageFault}
use Rattle.request_words.specs.declared.usage.UsageFault.TheVariants as usage

-- ---- one option

-- a word without a fault is a number of the form
true_from : (is : Bool) (name : OptionName) → (if is then None else Some (usage.Number name)) ≡ None → is ≡ true
true_from true name none = refl
true_from false name none = absurd (cc)

in_range : (most : ℕ) (word : List ℕ) → is_number_of (FromOneTo most) word ≡ true → IsOfForm (FromOneTo most) (digits_value 10 word)
in_range most word is =
    let parts = and_parts (is_number word && nat_le 1 (digits_value 10 word)) (nat_le (digits_value 10 word) most) is in
    (leb-true 1 (digits_value 10 word) (and_parts (is_number word) (nat_le 1 (digits_value 10 word)) parts.0).1, leb-true (digits_value 10 word) most parts.1)

number_read : (most : ℕ) (word : List ℕ) (is : Bool) → is ≡ is_number_of (FromOneTo most) word → is ≡ true →
    IfSome (if is then Some (digits_value 10 word) else None) (IsOfForm (FromOneTo most))
number_read most word true same is = in_range most word (sym same)
number_read most word false same is = tt

number_there : (word : List ℕ) (form : ℕ → Type 0) (is : Bool) → is ≡ true → IfSome (if is then Some (digits_value 10 word) else None) form →
    form (unwrap_or (if is then Some (digits_value 10 word) else None) 0)
number_there word form true is within = within
number_there word form false is within = absurd (cc)

preset-taken : (most number : ℕ) (name : OptionName) (value : Option (List ℕ)) → 1 ≤ number → number ≤ most → option_fault (Preset (FromOneTo most) number) name value ≡ None →
    IsOfForm (FromOneTo most) (unwrap_or (number_given (Preset (FromOneTo most) number) value) 0)
preset-taken most number name None some few none = (some, few)
preset-taken most number name (Some word) some few none =
    let is : is_number_of (FromOneTo most) word ≡ true = true_from (is_number_of (FromOneTo most) word) name none in
    number_there word (IsOfForm (FromOneTo most)) (is_number_of (FromOneTo most) word) is (number_read most word (is_number_of (FromOneTo most) word) refl is)

optional-taken : (most : ℕ) (name : OptionName) (value : Option (List ℕ)) → option_fault (Optional (FromOneTo most)) name value ≡ None →
    IfSome (number_given (Optional (FromOneTo most)) value) (IsOfForm (FromOneTo most))
optional-taken most name None none = tt
optional-taken most name (Some word) none =
    number_read most word (is_number_of (FromOneTo most) word) refl (true_from (is_number_of (FromOneTo most) word) name none)

needed-taken : (most : ℕ) (name : OptionName) (value : Option (List ℕ)) → option_fault (Needed (FromOneTo most)) name value ≡ None →
    IsOfForm (FromOneTo most) (unwrap_or (number_given (Needed (FromOneTo most)) value) 0)
needed-taken most name None none = absurd (cc)
needed-taken most name (Some word) none =
    let is : is_number_of (FromOneTo most) word ≡ true = true_from (is_number_of (FromOneTo most) word) name none in
    number_there word (IsOfForm (FromOneTo most)) (is_number_of (FromOneTo most) word) is (number_read most word (is_number_of (FromOneTo most) word) refl is)

-- ---- all options

first-none : (one others : Option UsageFault) → option_or one others ≡ None → one ≡ None
first-none None others none = refl
first-none (Some fault) others none = absurd (cc)

others-none : (one others : Option UsageFault) → option_or one others ≡ None → others ≡ None
others-none None others none = none
others-none (Some fault) others none = absurd (cc)

-- where no option of some is at fault, neither is the first, nor is one of the others
head-none : (mode : Mode) (given : Given) (name : OptionName) (names : List OptionName) → first_fault mode given (name ∷ names) ≡ None →
    option_fault (takes mode name) name (given name) ≡ None
head-none mode given name names none = first-none (option_fault (takes mode name) name (given name)) (first_fault mode given names) none

tail-none : (mode : Mode) (given : Given) (name : OptionName) (names : List OptionName) → first_fault mode given (name ∷ names) ≡ None → first_fault mode given names ≡ None
tail-none mode given name names none = others-none (option_fault (takes mode name) name (given name)) (first_fault mode given names) none

at-none : (mode : Mode) (given : Given) (names : List OptionName) → first_fault mode given names ≡ None →
    (i : ℕ) → i < length names → option_fault (takes mode (get_or names i option.Schema)) (get_or names i option.Schema) (given (get_or names i option.Schema)) ≡ None
at-none mode given [] none i within = absurd (omega (arith, within))
at-none mode given (name ∷ names) none zero within = head-none mode given name names none
at-none mode given (name ∷ names) none (suc i) within = at-none mode given names (tail-none mode given name names none) i (omega (arith, within))

workers-none : (mode : Mode) (given : Given) → first_fault mode given order ≡ None → option_fault (takes mode option.Workers) option.Workers (given option.Workers) ≡ None
workers-none mode given none = at-none mode given order none 8 (omega arith)

package-none : (mode : Mode) (given : Given) → first_fault mode given order ≡ None → option_fault (takes mode option.Package) option.Package (given option.Package) ≡ None
package-none mode given none = at-none mode given order none 9 (omega arith)

nodes-none : (mode : Mode) (given : Given) → first_fault mode given order ≡ None → option_fault (takes mode option.Nodes) option.Nodes (given option.Nodes) ≡ None
nodes-none mode given none = at-none mode given order none 11 (omega arith)

size-none : (mode : Mode) (given : Given) → first_fault mode given order ≡ None → option_fault (takes mode option.Size) option.Size (given option.Size) ≡ None
size-none mode given none = at-none mode given order none 12 (omega arith)

workers-taken : (mode : Mode) (given : Given) → first_fault mode given order ≡ None → IsTaken (takes mode option.Workers) (number_or_zero mode given option.Workers)
workers-taken Check given none = tt
workers-taken Snapshot given none = preset-taken 64 4 option.Workers (given option.Workers) (omega arith) (omega arith) (workers-none Snapshot given none)
workers-taken Unit given none = preset-taken 64 4 option.Workers (given option.Workers) (omega arith) (omega arith) (workers-none Unit given none)
workers-taken Row given none = tt
workers-taken Apply given none = tt
workers-taken Sample given none = preset-taken 64 4 option.Workers (given option.Workers) (omega arith) (omega arith) (workers-none Sample given none)
workers-taken Play given none = tt
workers-taken Details given none = preset-taken 64 4 option.Workers (given option.Workers) (omega arith) (omega arith) (workers-none Details given none)
workers-taken DetailsUnit given none = preset-taken 64 4 option.Workers (given option.Workers) (omega arith) (omega arith) (workers-none DetailsUnit given none)
workers-taken DetailsApply given none = tt
workers-taken Undo given none = preset-taken 64 4 option.Workers (given option.Workers) (omega arith) (omega arith) (workers-none Undo given none)
workers-taken Revert given none = tt

package-taken : (mode : Mode) (given : Given) → first_fault mode given order ≡ None → IfSome (number_for mode given option.Package) (IsTaken (takes mode option.Package))
package-taken Check given none = tt
package-taken Snapshot given none = optional-taken 1000000 option.Package (given option.Package) (package-none Snapshot given none)
package-taken Unit given none = optional-taken 1000000 option.Package (given option.Package) (package-none Unit given none)
package-taken Row given none = tt
package-taken Apply given none = tt
package-taken Sample given none = optional-taken 1000000 option.Package (given option.Package) (package-none Sample given none)
package-taken Play given none = tt
package-taken Details given none = optional-taken 1000000 option.Package (given option.Package) (package-none Details given none)
package-taken DetailsUnit given none = optional-taken 1000000 option.Package (given option.Package) (package-none DetailsUnit given none)
package-taken DetailsApply given none = tt
package-taken Undo given none = optional-taken 1000000 option.Package (given option.Package) (package-none Undo given none)
package-taken Revert given none = tt

nodes-taken : (mode : Mode) (given : Given) → first_fault mode given order ≡ None → IsTaken (takes mode option.Nodes) (number_or_zero mode given option.Nodes)
nodes-taken Check given none = tt
nodes-taken Snapshot given none = preset-taken 1024 1 option.Nodes (given option.Nodes) (omega arith) (omega arith) (nodes-none Snapshot given none)
nodes-taken Unit given none = preset-taken 1024 1 option.Nodes (given option.Nodes) (omega arith) (omega arith) (nodes-none Unit given none)
nodes-taken Row given none = tt
nodes-taken Apply given none = tt
nodes-taken Sample given none = tt
nodes-taken Play given none = tt
nodes-taken Details given none = tt
nodes-taken DetailsUnit given none = tt
nodes-taken DetailsApply given none = tt
nodes-taken Undo given none = tt
nodes-taken Revert given none = tt

size-taken : (mode : Mode) (given : Given) → first_fault mode given order ≡ None → IsTaken (takes mode option.Size) (number_or_zero mode given option.Size)
size-taken Check given none = tt
size-taken Snapshot given none = tt
size-taken Unit given none = tt
size-taken Row given none = tt
size-taken Apply given none = tt
size-taken Sample given none = needed-taken 1000 option.Size (given option.Size) (size-none Sample given none)
size-taken Play given none = tt
size-taken Details given none = tt
size-taken DetailsUnit given none = tt
size-taken DetailsApply given none = tt
size-taken Undo given none = tt
size-taken Revert given none = tt

request-taken : (mode : Mode) (given : Given) → first_fault mode given order ≡ None → AreWithinRanges (request_of mode given)
request-taken mode given none = record {
  workers = workers-taken mode given none;
  lines = package-taken mode given none;
  nodes = nodes-taken mode given none;
  size = size-taken mode given none;
}

-- ---- words

unless_fault-taken : (mode : Mode) (given : Given) (fault : Option UsageFault) → fault_of mode given ≡ fault → IfOk (unless_fault fault (request_of mode given)) AreWithinRanges
unless_fault-taken mode given None none = request-taken mode given (first-none (first_fault mode given order) _ none)
unless_fault-taken mode given (Some fault) is = tt

of_mode-taken : (mode : Option Mode) (given : Given) → IfOk (of_mode mode given) AreWithinRanges
of_mode-taken None given = tt
of_mode-taken (Some mode) given = unless_fault-taken mode given (fault_of mode given) refl

if-taken : (is : Bool) (q : Result Request UsageFault) → IfOk q AreWithinRanges → IfOk (if is then q else Err usage.Words) AreWithinRanges
if-taken true q of = of
if-taken false q of = tt

pub request-within_ranges : (words : List (List ℕ)) → IfOk (request words) AreWithinRanges
unfolding request
request-within_ranges [] = tt
request-within_ranges (program ∷ words) =
    if-taken (has_form words) _ (of_mode-taken (option_and_then mode_named (mode_in words)) (given_in words))

-- a request that words give
pub ranges-of : (words : List (List ℕ)) (made : Request) → request words ≡ Ok made → AreWithinRanges made
ranges-of words made is = subst (λ (r : Result Request UsageFault). IfOk r AreWithinRanges) is (request-within_ranges words)
