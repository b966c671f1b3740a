use Rattle.std.proofs.Common.{◌≡◌, ◌≤◌, ◌∙◌, ℕ, List, Some, None, Result, Err, Ok, ap, true, drop, length, map, string_bytes, subst, sym}
use Rattle.std.specs.Option.{option_and_then}
use Rattle.std.proofs.lemmas.List.{length-map}
use Rattle.std.proofs.lemmas.Result.{IfOk-weaker}
use Rattle.request_words.specs.Form.{given_in, has_form, mode_in}
use Rattle.request_words.specs.Options.{mode_named, request_of}
use Rattle.std.specs.Prelude.{IfErr, IfOk}
use Rattle.request_words.specs.Words.{fault_of, request}
use Rattle.request_words.specs.declared.usage.Request.{Request}
use Rattle.request_words.specs.declared.usage.UsageFault.{UsageFault}
use Rattle.request_words.proofs.FaultLemmas.{request-other}
use Rattle.request_words.proofs.RangeLemmas.{ranges-of}
use Rattle.request_words.proofs.RequestLemmas.{behind_first, request_given}
use Rattle.request_words.proofs.words.read_words.Goals as goal
use Rattle.request_words.proofs.words.read_words.Goals.{After-request_of}

-- the words give the request of what is given in them
given_is : (c : After-request_of) → request (map string_bytes c.args.words.now) ≡ Ok (request_of c.in-Some.mode (given_in (drop 1 (map string_bytes c.args.words.now))))
given_is c =
    let words : List (List ℕ) = map string_bytes c.args.words.now in
    let some : 1 ≤ length words = subst (λ (n : ℕ). 1 ≤ n) (sym (length-map c.args.words.now string_bytes)) c.in-len1-up.len_at_least in
    let behind = behind_first string_bytes c.args.words.now in
    let f : has_form (drop 1 words) ≡ true = cc in
    let named : option_and_then mode_named (mode_in (drop 1 words)) ≡ Some c.in-Some.mode =
    ap (λ (w : List (List ℕ)). option_and_then mode_named (mode_in w)) (sym behind) ∙ (sym c.mode_of.ensures ∙ c.in-Some.is) in
    let right : fault_of c.in-Some.mode (given_in (drop 1 words)) ≡ None =
    ap (λ (w : List (List ℕ)). fault_of c.in-Some.mode (given_in w)) (sym behind) ∙ (sym c.fault_of.ensures ∙ c.in_default-fault_of.is) in
    request_given words c.in-Some.mode some f named right

-- and that is the request that is made
made_is : (c : After-request_of) → IfOk c.request_of.result (λ made. request (map string_bytes c.args.words.now) ≡ Ok made)
made_is c =
    IfOk-weaker c.request_of.result _ _ (λ made same. given_is c ∙ ap Ok (sym (same ∙ ap (request_of c.in-Some.mode) c.in-Ok.ensures.read))) c.request_of.ensures.made

pub returns-in-Ok-clause-read : goal.returns-in-Ok-clause-read
returns-in-Ok-clause-read c = made_is (goal.at.returns-in-Ok-clause-read c).After-request_of

pub returns-in-Ok-clause-ranges : goal.returns-in-Ok-clause-ranges
returns-in-Ok-clause-ranges c =
    IfOk-weaker c.request_of.result _ _ (λ made same. ranges-of (map string_bytes c.args.words.now) made same) (made_is (goal.at.returns-in-Ok-clause-ranges c).After-request_of)

pub returns-in-Ok-clause-usage : goal.returns-in-Ok-clause-usage
returns-in-Ok-clause-usage c =
    let is = given_is (goal.at.returns-in-Ok-clause-usage c).After-request_of in
    subst (λ (r : Result Request UsageFault). IfErr r (λ fault. c.request_of.result ≡ Err fault)) (sym is) tt

pub returns-in-Ok-clause-no_memory : goal.returns-in-Ok-clause-no_memory
returns-in-Ok-clause-no_memory c = request-other (map string_bytes c.args.words.now)

pub returns-in-Some-fault_of-clause-no_memory : goal.returns-in-Some-fault_of-clause-no_memory
returns-in-Some-fault_of-clause-no_memory c = request-other (map string_bytes c.args.words.now)
