-- Demand 3 of one call, over what its result says: `demand_3`. `apply` and `apply_in` are proved to answer `applying`, so this holds of every call
-- of them. Assumes nothing.
use Rattle.std.specs.Prelude.{Err, Ok, Result}
use mathlib.Core.Path.{◌≡◌, refl, sym, ap, ◌∙◌}
use mathlib.Core.Logic.{◌⊎◌, ⊎_elim}
use mathlib.Core.List.{List}
use Prim.Native.Nat.{ℕ, ◌≤◌, ◌<◌}
use native.Mathlib.Omega.{arith}
use lib.ListN.{length, get_or}
use Rattle.common.specs.Refusal.{number_of}
use Rattle.common.specs.declared.refusal.Refusal.{Refusal}
use Rattle.common.specs.declared.refusal.Refusal.TheVariants.{Limit}
use Rattle.rules.specs.declared.number.Value.{Value}
use Rattle.steps.specs.declared.mode.Mode.{Mode}
use Rattle.steps.specs.declared.mode.Edition.TheVariants.{Mdf410}
use Rattle.tree.specs.Tree.{size}
use Rattle.tree.specs.Walk.{trace, checked}
use Rattle.tree.proofs.Acceptance.{acceptance}
use Rattle.tree.proofs.Checks.{Rooted, limit_comes, limit_only}
use Rattle.engine.specs.Apply.{applied}
use Rattle.conversion.specs.Entry.{Call, call, settled, refused_before, by_check, applying}
use Rattle.conversion.specs.Reach.{NoGroups}
use Rattle.conversion.specs.declared.logic.Answer.TheVariants.{Refused}
use Rattle.conversion.proofs.Demand.{after_check, visits, few_visits, few_visits_410, refused_only, same_when_raised, untouched}

-- image, address, limit, a value with a text beside it, and the lent output; in any mode
module _ (mode : Mode) (img : List ℕ) (a limit : ℕ) (v : Value) (t out : List ℕ) where
  -- the call: `result` has the answer, N as `checked` and M as `applied`; `output` is what the lent output holds then
  abbrev pub made : Call
  made = applying mode img a limit v t out

  -- ---- where the check accepts with n visits
  pub record AfterAccepted (n : ℕ) : Type 0 where
    -- N is the check's count, and the size of the unfolded tree: a block that two links lead to counts twice
    pub its_count : made.result.checked ≡ n
    pub tree_size : made.result.checked ≡ size 21 img a
    -- M is the number of blocks that the application begins, repeats included
    pub begun : made.result.applied ≡ length (applied 21 mode img t a v).begun
    -- 1 <= M <= N <= limit
    pub some : 1 ≤ made.result.applied
    pub no_more : made.result.applied ≤ made.result.checked
    pub limited : made.result.checked ≤ limit
    -- M <= 21 where none of the blocks begun has type 11
    pub few : NoGroups img (applied 21 mode img t a v).begun → made.result.applied ≤ 21
    -- the only refusals are 7, a formula, and 8, the output is too small: none for depth, a loop, few links, a short block or the limit
    pub refusals : (r : Refusal) → made.result.answer ≡ Refused r → (number_of r ≡ 7) ⊎ (number_of r ≡ 8)
    -- a raised limit changes neither answer, N, M, the flag of a malformed table nor output
    pub raised : (higher : ℕ) → limit ≤ higher → applying mode img a higher v t out ≡ made

  -- ---- where the check refuses with r
  pub record AfterRefused (r : Refusal) : Type 0 where
    -- that refusal is the answer, with its address; N and M are 0
    pub answer : made.result.answer ≡ Refused r
    pub no_count : made.result.checked ≡ 0
    pub none_begun : made.result.applied ≡ 0
    pub untouched : made.output ≡ out

  -- ---- demand 3
  pub record DemandThree : Type 0 where
    pub accepted : (n : ℕ) → checked img a limit ≡ Ok n → AfterAccepted n
    pub refused : (r : Refusal) → checked img a limit ≡ Err r → AfterRefused r
    -- any refusal, of the check or of applying, leaves the output as it was
    pub kept : (r : Refusal) → made.result.answer ≡ Refused r → made.output ≡ out
    -- M <= 21 in edition 4.10 for every image, whatever the check answers
    pub few_410 : mode.edition ≡ Mdf410 → made.result.applied ≤ 21
    -- refusal 3 exactly where the walk with no limit begins more visits than the limit; it names the one that would be too many
    pub limit_comes : Rooted img a limit → limit < length (trace img a).visits
        → made.result.answer ≡ Refused (Limit (get_or (trace img a).visits limit 0))
    pub limit_only : (x : ℕ) → made.result.answer ≡ Refused (Limit x)
        → (limit < length (trace img a).visits) × (x ≡ get_or (trace img a).visits limit 0)

  after_accepted : (n : ℕ) → checked img a limit ≡ Ok n → AfterAccepted n
  unfolding settled
  after_accepted n e =
      let k = acceptance img a limit n e in
      let m = visits mode img t a limit n v e in
      let it = after_check mode img a limit n v t out e in
      let its_count : made.result.checked ≡ n = ap (λ (c : Call). c.result.checked) it in
      let begun : made.result.applied ≡ length (applied 21 mode img t a v).begun = ap (λ (c : Call). c.result.applied) it in
      record {
        its_count = its_count;
        tree_size = its_count ∙ k.count;
        begun = begun;
        some = omega (arith, begun, m.0);
        no_more = omega (arith, begun, its_count, m.1);
        limited = omega (arith, its_count, k.few);
        few = λ none. omega (arith, begun, few_visits mode img t a limit n v e none);
        refusals = λ r p. refused_only mode img a limit n v t out r e p;
        raised = λ higher h. same_when_raised mode img a limit higher n v t out e h;
      }

  after_refused : (r : Refusal) → checked img a limit ≡ Err r → AfterRefused r
  unfolding applying
  after_refused r e =
      let it : made ≡ call (refused_before r) out =
      ap (λ (c : Result ℕ Refusal). by_check c (λ n. settled n a (applied 21 mode img t a v) out) out) e in
      record {
        answer = ap (λ (c : Call). c.result.answer) it;
        no_count = ap (λ (c : Call). c.result.checked) it;
        none_begun = ap (λ (c : Call). c.result.applied) it;
        untouched = ap (λ (c : Call). c.output) it;
      }

  only : (x : ℕ) → made.result.answer ≡ Refused (Limit x) → (limit < length (trace img a).visits) × (x ≡ get_or (trace img a).visits limit 0)
  only x p = go (checked img a limit) refl
    where
      go : (c : Result ℕ Refusal) → checked img a limit ≡ c → (limit < length (trace img a).visits) × (x ≡ get_or (trace img a).visits limit 0)
      go (Ok n) e =
          ⊎_elim (λ seven. absurd (omega (arith, seven))) (λ eight. absurd (omega (arith, eight))) ((after_accepted n e).refusals (Limit x) p)
      go (Err r) e =
          let same : Refused r ≡ Refused (Limit x) = sym (after_refused r e).answer ∙ p in
          let it : r ≡ Limit x = cc in
          limit_only img a limit x (e ∙ ap Err it)

  pub demand_3 : DemandThree
  demand_3 = record {
    accepted = after_accepted;
    refused = after_refused;
    kept = λ r p. untouched mode img a limit v t out r p;
    few_410 = few_visits_410 mode img a limit v t out;
    limit_comes = λ root more. (after_refused _ (limit_comes img a limit root more)).answer;
    limit_only = only;
  }
