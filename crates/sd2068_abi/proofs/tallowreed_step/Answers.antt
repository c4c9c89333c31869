-- On bytes that are a state's, the event is told as its step. Assumes nothing.
use Rattle.std.proofs.Common.{◌≡◌, ◌∙◌, sym, arith, true, List, ℕ}
use Rattle.std.proofs.lemmas.Grind.{common_steps}
use Rattle.events.specs.Refusal.{fault_of}
use Rattle.state_bytes.specs.Shapes.{Bytes}
use Rattle.state_bytes.specs.Decoded.{is_state}
use Rattle.sd2068_abi.proofs.AbiLaws.{step_told}
use Rattle.sd2068_abi.proofs.tallowreed_step.Goals as goal

pub returns : goal.returns
returns c =
    let s : List ℕ = c.args.state.now in
    let bytes : Bytes s = record { long = c.if-state-ne61.false; each = λ i. omega (arith, c.slice_known-1.given i) } in
    let taken : is_state s ≡ true = sym c.is_state.ensures ∙ c.if-not-is_state.false in
    let fault : c.map_or-refusal.result ≡ fault_of c.args.kind c.args.byte c.args.count = grind (arith, common_steps) in
    step_told s _ _ _ _ _ _ bytes taken fault c.tell.ensures
