-- What the output's stores come to, and the turns of a run. Assumes nothing.
use mathlib.Core.Path.{◌≡◌, refl, sym, ap, ◌∙◌, subst}
use mathlib.Core.Bool.{cond}
use mathlib.Core.List.{List, [], ◌∷◌, ◌++◌, append_assoc, append-nil}
use Prim.Native.Nat.{ℕ, zero, suc, ◌+◌, ◌-◌, ◌*◌, ◌/◌, ◌≤◌, ◌<◌}
use native.Mathlib.Omega.{arith}
use native.Mathlib.Nat.{not-suc-le-zero}
use lib.Dec.{eqb}
use lib.ListN.{length, take, drop, length-append, length-drop, take-append-drop}
use lib.Seq.{length-take-le, take_at, drop_at, drop-drop}
use borrow.Rule.Slice.PartMut.{put_mid, Post-is}
use Rattle.events.specs.declared.answer.Answer.{Answer}
use Rattle.events.specs.declared.answer.Answer.TheVariants.{Quiet, Ack, Nak, Byte}
use Rattle.events.specs.declared.event.Event.{Event}
use Rattle.events.specs.Answer.{text_of}
use Rattle.sd2068.specs.declared.clock.Clock.{Clock}
use Rattle.sd2068.specs.declared.answers.Answered.{Answered}
use Rattle.sd2068.specs.Step.{Told, quiet_of, event_of, refusal_of, step_of}
use Rattle.sd2068.specs.Run.{told_by, after, after_of}
use Rattle.script.specs.Event.{event_at, events_from, events_in}
use Rattle.script.specs.Lines.{line_of, put_of, lines_of}
use Rattle.script.specs.File.{EventsRun}
use Rattle.script.proofs.SearchLaws.{events_length}

-- a line has five characters
line_five : (x : Answer) (pin : ℕ) → length (line_of (text_of x) pin) ≡ 5
line_five Quiet pin = refl
line_five Ack pin = refl
line_five Nak pin = refl
line_five (Byte b) pin = refl

-- a line written over five bytes of the output
pub line_put : (out : List ℕ) (at : ℕ) (part line : List ℕ) → part ≡ line → put_mid at (at + 5 - at) out part ≡ put_of out at line
line_put out at part line e = λ i. take at out ++ (e i ++ Post-is at (at + 5) out (omega arith) i)

-- a line that is put: what is before it and the line, what is behind it, and the length
module _ (out : List ℕ) (at : ℕ) (l : List ℕ) (five : length l ≡ 5) (h : at + 5 ≤ length out) where
  put_front : length (take at out ++ l) ≡ at + 5
  put_front =
      length-append (take at out) l
      ∙ ap (λ (n : ℕ). n + length l) (length-take-le at out (omega arith))
      ∙ ap (λ (n : ℕ). at + n) five

  put_take : take (at + 5) (put_of out at l) ≡ take at out ++ l
  put_take =
      ap (take (at + 5)) (sym (append_assoc (take at out) l (drop (at + 5) out)))
      ∙ take_at (take at out ++ l) (drop (at + 5) out) (at + 5) put_front

  put_drop : drop (at + 5) (put_of out at l) ≡ drop (at + 5) out
  put_drop =
      ap (drop (at + 5)) (sym (append_assoc (take at out) l (drop (at + 5) out)))
      ∙ drop_at (take at out ++ l) (drop (at + 5) out) (at + 5) put_front

  put_length : length (put_of out at l) ≡ length out
  put_length =
      ap length (sym (append_assoc (take at out) l (drop (at + 5) out)))
      ∙ length-append (take at out ++ l) (drop (at + 5) out)
      ∙ ap (λ (n : ℕ). n + length (drop (at + 5) out)) put_front
      ∙ ap (λ (n : ℕ). at + 5 + n) (length-drop (at + 5) out)
      ∙ omega arith

-- the first event is told, and the rest go on from its state
after_first : (c : Clock) (s : List ℕ) (at left : ℕ) → 0 < left → after_of c (events_from s at left) ≡ after_of (told_by c (event_at s at)).state (events_from s (at + 4) (left - 1))
unfolding after
after_first c s at zero h = absurd (not-suc-le-zero h)
after_first c s at (suc k) h =
    let one : k ≡ suc k - 1 = omega arith in
    ap (λ (m : ℕ). after_of (told_by c (event_at s at)).state (events_from s (at + 4) m)) one

abbrev pub told_line : Told → List ℕ
told_line t = line_of t.answer t.pin

lines_first : (c : Clock) (s : List ℕ) (at left : ℕ) → 0 < left → lines_of c (events_from s at left) ≡ told_line (told_by c (event_at s at)) ++ lines_of (told_by c (event_at s at)).state (events_from s (at + 4) (left - 1))
unfolding lines_of
lines_first c s at zero h = absurd (not-suc-le-zero h)
lines_first c s at (suc k) h =
    let one : k ≡ suc k - 1 = omega arith in
    ap (λ (m : ℕ). told_line (told_by c (event_at s at)) ++ lines_of (told_by c (event_at s at)).state (events_from s (at + 4) m)) one

-- a line of five bytes for each event
told_five : (c : Clock) (e : Event) → length (told_line (told_by c e)) ≡ 5
unfolding step_of
told_five c e =
    let n = refusal_of c e.kind e.byte e.count in
    line_five (cond {A = Answered} (eqb n 0) (event_of c e.kind e.byte e.count) (quiet_of c)).answer (step_of c e.kind e.byte e.count).pin

pub lines_length : (c : Clock) (es : List Event) → length (lines_of c es) ≡ length es * 5
unfolding lines_of
lines_length c [] = refl
lines_length c (e ∷ es) =
    let next = (told_by c e).state in
    let all = length-append (told_line (told_by c e)) (lines_of next es) in
    let line = told_five c e in
    let rest = lines_length next es in
    omega arith

-- where a run stands: what is left to do is what there was to do, less what stands in the output
pub record Stage (s : List ℕ) (out₀ : List ℕ) (c₀ : Clock) (out : List ℕ) (c : Clock) (left at line : ℕ) : Type 0 where
  pub inside : at + left * 4 ≤ length s
  pub room : line + left * 5 ≡ length s / 4 * 5
  pub fits : length s / 4 * 5 ≤ length out₀
  pub same : length out ≡ length out₀
  pub state : after_of c (events_from s at left) ≡ after_of c₀ (events_in s)
  pub lines : take line out ++ lines_of c (events_from s at left) ≡ lines_of c₀ (events_in s)
  pub rest : drop line out ≡ drop line out₀

pub begins : (s out : List ℕ) (c : Clock) → length s / 4 * 5 ≤ length out → Stage s out c out c (length s / 4) 0 0
unfolding events_in
begins s out c h =
    record { inside = omega arith; room = omega arith; fits = h; same = refl; state = refl; lines = refl; rest = refl }

module _ {s out₀ : List ℕ} {c₀ : Clock} {out : List ℕ} {c : Clock} {left at line : ℕ} (g : Stage s out₀ c₀ out c left at line) where
  pub fits_line : 0 < left → line + 5 ≤ length out
  fits_line more =
      let a = g.room in
      let b = g.fits in
      let d = g.same in
      omega arith

  -- one event: its step is told from the state, and its line is put
  module _ (more : 0 < left) where
    abbrev told : Told
    told = told_by c (event_at s at)

    goes_on : Stage s out₀ c₀ (put_of out line (told_line told)) told.state (left - 1) (at + 4) (line + 5)
    goes_on =
        let l = told_line told in
        let l5 = told_five c (event_at s at) in
        let a = g.inside in
        let b = g.room in
        record {
          inside = omega arith;
          room = omega arith;
          fits = g.fits;
          same = put_length out line l l5 (fits_line more) ∙ g.same;
          state = sym (after_first c s at left more) ∙ g.state;
          lines =
              ap (λ (x : List ℕ). x ++ lines_of told.state (events_from s (at + 4) (left - 1))) (put_take out line l l5 (fits_line more))
              ∙ append_assoc (take line out) l (lines_of told.state (events_from s (at + 4) (left - 1)))
              ∙ ap (λ (x : List ℕ). take line out ++ x) (sym (lines_first c s at left more))
              ∙ g.lines;
          rest =
              put_drop out line l l5 (fits_line more)
              ∙ sym (drop-drop 5 line out)
              ∙ ap (drop 5) g.rest
              ∙ drop-drop 5 line out₀;
        }

    pub turns :
        (next : List ℕ) (d : Clock) → next ≡ put_of out line (told_line told) → d ≡ told.state → Stage s out₀ c₀ next d (left - 1) (at + 4) (line + 5)
    turns next d put state =
        subst (λ (o : List ℕ). Stage s out₀ c₀ o d (left - 1) (at + 4) (line + 5)) (sym put)
        (subst (λ (x : Clock). Stage s out₀ c₀ (put_of out line (told_line told)) x (left - 1) (at + 4) (line + 5)) (sym state) goes_on)

-- nothing is left: the lines stand, and behind them what stood there
ends : {s out₀ : List ℕ} {c₀ : Clock} {out : List ℕ} {c : Clock} {at line : ℕ} → Stage s out₀ c₀ out c 0 at line → EventsRun c₀ (events_in s) out₀ c out
unfolding after lines_of events_in
ends {s} {out₀} {c₀} {out} {c} {at} {line} g =
    let end : line ≡ length (events_in s) * 5 = (let a = g.room in omega arith) ∙ ap (λ (n : ℕ). n * 5) (sym (events_length s 0 (length s / 4))) in (
      g.state,
      sym (take-append-drop line out)
          ∙ ap (λ (x : List ℕ). x ++ drop line out) (sym (append-nil (take line out)) ∙ g.lines)
          ∙ ap (λ (x : List ℕ). lines_of c₀ (events_in s) ++ x) (g.rest ∙ ap (λ (n : ℕ). drop n out₀) end),
    )

pub ended : {s out₀ : List ℕ} {c₀ : Clock} {out : List ℕ} {c : Clock} {left at line : ℕ} → left ≤ 0 → Stage s out₀ c₀ out c left at line → EventsRun c₀ (events_in s) out₀ c out
ended {left = zero} h g = ends g
ended {left = suc k} h g = absurd (not-suc-le-zero h)
