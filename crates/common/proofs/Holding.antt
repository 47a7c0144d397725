-- What is held of bytes by an output with room for them, and by one without. Assumes nothing.
use mathlib.Core.Path.{◌≡◌, refl, sym, ap, ◌∙◌}
use mathlib.Core.Bool.{Bool, true, false}
use mathlib.Core.List.{List, ◌++◌}
use Prim.Native.Nat.{ℕ, ◌≤◌, ◌<◌}
use native.Mathlib.Omega.{arith}
use borrow.Author.Tests.{lt-ltb, le-ltb, ltb-true, ltb-false}
use lib.Dec.{ltb}
use lib.ListN.{length, drop}
use Rattle.std.specs.Prelude.{Result, Ok, Err}
use Rattle.words.specs.Words.{put}
use Rattle.words.proofs.Clash.{clash}
use Rattle.words.proofs.Laws.{put_front}
use Rattle.common.specs.Written.{WriteCall, write_call, holding}
use Rattle.common.specs.declared.refusal.Refusal.TheVariants.{Room}
use Rattle.common.specs.declared.refusal.Refusal.{Refusal}

module _ (bytes out : List ℕ) where
  pub none_held : length out < length bytes → holding bytes out ≡ write_call (Err Room) out
  unfolding holding
  none_held h = rw (lt-ltb _ _ h)

  pub all_held : length bytes ≤ length out → holding bytes out ≡ write_call (Ok (length bytes)) (bytes ++ drop (length bytes) out)
  unfolding holding
  all_held h = rw (le-ltb _ _ h)

  -- bytes that were put from byte 0 on are held
  pub put_held : {n : ℕ} {last : List ℕ} → n ≡ length bytes → n ≤ length out → last ≡ put out 0 bytes → write_call (Ok n) last ≡ holding bytes out
  put_held {n} {last} long fits made =
      let most : length bytes ≤ length out = omega (arith, long) in
      ap (λ (k : ℕ). write_call (Ok k) last) long ∙ ap (write_call (Ok (length bytes))) (made ∙ put_front out bytes most) ∙ sym (all_held most)

-- an answer of k bytes: so long are the bytes, they fit, and the output begins with them
pub record Held (bytes out : List ℕ) (k : ℕ) (after : List ℕ) : Type 0 where
  pub long : k ≡ length bytes
  pub fits : k ≤ length out
  pub begins : after ≡ bytes ++ drop k out

pub held : (bytes out : List ℕ) (w : Result ℕ Refusal) (k : ℕ) (after : List ℕ) → write_call w after ≡ holding bytes out → w ≡ Ok k → Held bytes out k after
held bytes out w k after made e = go (ltb (length out) (length bytes)) refl
  where
    go : (t : Bool) → ltb (length out) (length bytes) ≡ t → Held bytes out k after
    go true t =
        let same : w ≡ Err Room = ap (λ (c : WriteCall). c.result) (made ∙ none_held bytes out (ltb-true (length out) (length bytes) t)) in
        clash cc
    go false t =
        let most = ltb-false (length out) (length bytes) t in
        let all = made ∙ all_held bytes out most in
        let same : w ≡ Ok (length bytes) = ap (λ (c : WriteCall). c.result) all in
        let size : k ≡ length bytes = cc in
        record {
          long = size;
          fits = omega (arith, size, most);
          begins = ap (λ (c : WriteCall). c.output) all ∙ ap (λ (m : ℕ). bytes ++ drop m out) (sym size);
        }
