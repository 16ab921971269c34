-- What holds of a book in every past.
use Rattle.std.proofs.Common.{◌≡◌, ℕ, ◌+◌, ◌%◌, ◌<◌, ◌≤◌, min, max, false, List, [], length, is_some, Some, None, Ok, Err, Option, Result, sym, refl, subst, arith}
use mathlib.Core.HLevel.{is_prop→PathP}
use mathlib.Core.Logic.{∥∥₁_map, ∥∥₁_elim, ∥∥₁_prop}
use native.Mathlib.Bridge.{le_prop}
use denote.Struct.Props.{props}
use Rattle.std.proofs.lemmas.Bool.Decides.{nat_tests}
use Rattle.flow.specs.declared.pairs.Pairs.{Pairs}
use Rattle.flow.specs.Plans.{Proper}
use Rattle.flow.specs.Ranges.{cabinets, most_slots}
use Rattle.mesh.specs.declared.row.Row.{Row}
use Rattle.mesh.specs.declared.fault.Fault.{Fault}
use Rattle.mesh.specs.Links.{KeepsRule, between, blank}
use Rattle.book.specs.declared.book.Book.{Book}
use Rattle.book.specs.declared.trial.Trial.{Trial}
use Rattle.book.specs.Plans.{Plan}
use Rattle.book.specs.History.{State, state, opened, Call, refusal, Step, Stays, Run, Past, added, taken, counted, linked, resized, slots_of, not_standing, TrialThere}
use Rattle.book.specs.History.Call.{Add, Resize, Drop, Name, Begin, Close, Draw, Admit}
use Rattle.book.specs.History.Run.{still, more}
use Rattle.book.specs.Ledgers.{seen}
use Rattle.book.specs.Books.{Sound, Standing}
use Rattle.book.proofs.Changes.{ruled_push, ruled_resize, ruled_remove, few_push, few_resize, few_remove, emptied}
use Rattle.book.proofs.Distinct.{single_push, single_resize, single_remove}

-- one call more
pub then : (s t : State) (c : Call) (r : Result (Unit {0}) Fault) → ∥ Past s ∥₁ → Step s c r t → ∥ Past t ∥₁
then s t c r past step = ∥∥₁_map past (λ p. (p.0 + counted r (added s c), (p.1.0 + counted r (taken s c), more c r p.1.1 step)))

-- a book is its ledger: where the ledger stays, the book does
pub same_book : (a b : Book) → b.ledger ≡ a.ledger → b ≡ a
same_book a b e = λ i. record { ledger = e i; reached = is_prop→PathP (λ j. ∥ Past (seen (e j)) ∥₁) (λ j. ∥∥₁_prop) b.reached a.reached i }

pub stays : (a b : Book) (r : Result (Unit {0}) Fault) → Stays r a.ledger b.ledger → Stays r a b
stays a b (Ok _) h = tt
stays a b (Err fault) h = same_book a b h

-- what an accepted call tells
add_rule : (s : State) (a b n : ℕ) → refusal s (Add a b n) ≡ None → KeepsRule (between a b n)
add_rule s a b n e = grind (arith, nat_tests)

add_free : (s : State) (a b n : ℕ) → refusal s (Add a b n) ≡ None → is_some s.trial ≡ false
add_free s a b n e = grind (arith, nat_tests)

add_new : (s : State) (a b n : ℕ) → refusal s (Add a b n) ≡ None → linked s.rows (min a b) (max a b) ≡ false
add_new s a b n e = grind (arith, nat_tests)

add_room : (s : State) (a b n : ℕ) → refusal s (Add a b n) ≡ None → length s.rows < 512
add_room s a b n e = grind (arith, nat_tests)

resize_rule : (s : State) (l n : ℕ) → refusal s (Resize l n) ≡ None → (n % 2 ≡ 0) × (n ≤ most_slots)
resize_rule s l n e = grind (arith, nat_tests)

resize_free : (s : State) (l n : ℕ) → refusal s (Resize l n) ≡ None → is_some s.trial ≡ false
resize_free s l n e = grind (arith, nat_tests)

drop_free : (s : State) (l : ℕ) → refusal s (Drop l) ≡ None → is_some s.trial ≡ false
drop_free s l e = grind (arith, nat_tests)

pub drop_there : (s : State) (l : ℕ) → refusal s (Drop l) ≡ None → l < length s.rows
drop_there s l e = grind (arith, nat_tests)

name_proper : (s : State) (p : Pairs) → refusal s (Name p) ≡ None → Proper cabinets p
name_proper s p e = record {
  source1_in = grind (arith, nat_tests);
  goal1_in = grind (arith, nat_tests);
  source2_in = grind (arith, nat_tests);
  goal2_in = grind (arith, nat_tests);
  apart1 = λ q. grind (arith, nat_tests);
  apart2 = λ q. grind (arith, nat_tests);
}

begin_there : (s : State) (l : ℕ) → refusal s (Begin l) ≡ None → l < length s.rows
begin_there s l e = grind (arith, nat_tests)

pub close_same : (s : State) (u : Trial) → refusal s (Close u) ≡ None → not_standing s.trial u ≡ false
close_same s u e = grind (arith, nat_tests)

-- the trial that a receipt closes is the one that stands
pub same_trials : (o : Option Trial) (u : Trial) → not_standing o u ≡ false → (t : Trial) × (o ≡ Some t) × (t.link ≡ u.link) × (t.slots ≡ u.slots)
same_trials None u e = let z : ◌≡◌ {A = ℕ} 0 1 = cc in absurd (omega arith)
same_trials (Some t) u e = (t, refl, grind (arith, nat_tests), grind (arith, nat_tests))

-- what is in one option is what is in an equal one
pub same_some : {X : Type 0} (x y : X) → ◌≡◌ {A = Option X} (Some x) (Some y) → x ≡ y
same_some x y e = cc

pub none_is_none : {X : Type 0} (x : X) → ◌≡◌ {A = Option X} None (Some x) → ⊥
none_is_none x e = let z : ◌≡◌ {A = ℕ} 0 1 = cc in omega arith

-- where no trial stands there is nothing to keep of one
free : (rows : List Row) (o : Option Pairs) (t : Option Trial) (h : Option Plan) → is_some t ≡ false → Standing (state rows o t h)
free rows o None h e u k = absurd (none_is_none u k)
free rows o (Some t) h e u k = let z : ◌≡◌ {A = ℕ} 0 1 = cc in absurd (omega arith)

-- a change of one link's slots to such as a link can have
resized_sound : (s : State) (l n : ℕ) (o : Option Trial) → Sound s → n % 2 ≡ 0 → n ≤ most_slots → Standing (state (resized s.rows l n) s.pairs o None) → Sound (state (resized s.rows l n) s.pairs o None)
resized_sound s l n o g even few standing = record {
  ruled = ruled_resize s.rows l n g.ruled even few;
  single = single_resize s.rows l n g.single;
  few = few_resize s.rows l n g.few;
  proper = g.proper;
  standing = standing;
}

step_sound : (s t : State) (c : Call) (r : Result (Unit {0}) Fault) → Sound s → Step s c r t → Sound t
step_sound s t c (Err fault) g h = subst Sound (sym h.1) g
step_sound s t (Add a b n) (Ok _) g h =
    subst Sound (sym h.1) (record {
      ruled = ruled_push s.rows (between a b n) g.ruled (add_rule s a b n h.0);
      single = single_push s.rows (between a b n) (add_new s a b n h.0) g.single;
      few = few_push s.rows (between a b n) (add_room s a b n h.0);
      proper = g.proper;
      standing = free _ s.pairs s.trial None (add_free s a b n h.0);
    })
step_sound s t (Resize l n) (Ok _) g h =
    let w = resize_rule s l n h.0 in
    subst Sound (sym h.1) (resized_sound s l n s.trial g w.0 w.1 (free _ s.pairs s.trial None (resize_free s l n h.0)))
step_sound s t (Drop l) (Ok _) g h =
    subst Sound (sym h.1) (record {
      ruled = ruled_remove s.rows l g.ruled;
      single = single_remove s.rows l (drop_there s l h.0) g.single;
      few = few_remove s.rows l g.few;
      proper = g.proper;
      standing = free _ s.pairs s.trial None (drop_free s l h.0);
    })
step_sound s t (Name p) (Ok _) g h =
    subst Sound (sym h.1) (record {
      ruled = g.ruled;
      single = g.single;
      few = g.few;
      proper = λ q e. subst (Proper cabinets) (same_some p q e) (name_proper s p h.0);
      standing = g.standing;
    })
step_sound s t (Begin l) (Ok _) g h =
    let k = begin_there s l h.0 in
    let f = g.ruled l blank k in
    let n = emptied s.rows l k in
    subst Sound (sym h.1) (resized_sound s l 0 (Some (record { link = l; slots = slots_of s.rows l })) g refl (omega arith)
    (λ u e. subst (λ (v : Trial). (v.link < length (resized s.rows l 0)) × (slots_of (resized s.rows l 0) v.link ≡ 0) × (v.slots % 2 ≡ 0) × (v.slots ≤ most_slots)) (same_some _ u e) (n.0, n.1, f.2, f.3)))
step_sound s t (Close u) (Ok _) g h =
    let w = same_trials s.trial u (close_same s u h.0) in
    let f = g.standing w.0 w.1 in
    subst Sound (sym h.1) (resized_sound s u.link u.slots None g (subst (λ (n : ℕ). n % 2 ≡ 0) w.3 f.2) (subst (λ (n : ℕ). n ≤ most_slots) w.3 f.3) (free _ s.pairs None None refl))
step_sound s t Draw (Ok _) g h =
    subst Sound (sym h.1.4) (record {
      ruled = g.ruled;
      single = g.single;
      few = g.few;
      proper = g.proper;
      standing = g.standing;
    })
step_sound s t (Admit j) (Ok _) g h =
    subst Sound (sym h.1) (record {
      ruled = g.ruled;
      single = g.single;
      few = g.few;
      proper = g.proper;
      standing = g.standing;
    })

pub run_sound : {s : State} {a k : ℕ} {t : State} → Sound s → Run s a k t → Sound t
run_sound g still = g
run_sound g (more {t = t} {u = u} c r run step) = step_sound t u c r (run_sound g run) step

pub sound_opened : Sound opened
sound_opened = record {
  ruled = λ k d q. absurd (omega arith);
  single = λ j k d lt q. absurd (omega arith);
  few = omega arith;
  proper = λ p e. absurd (none_is_none p e);
  standing = free [] None None None refl;
}

-- a state that calls alone have reached is sound
pub sound : (s : State) → ∥ Past s ∥₁ → Sound s
sound s past = record {
  ruled = λ k d q. ∥∥₁_elim past (hlevel props) (λ p. (at p).ruled k d q);
  single = λ j k d lt q x y. ∥∥₁_elim past (λ u v. absurd u) (λ p. (at p).single j k d lt q x y);
  few = ∥∥₁_elim past le_prop (λ p. (at p).few);
  proper = λ p e. record {
    source1_in = ∥∥₁_elim past le_prop (λ w. ((at w).proper p e).source1_in);
    goal1_in = ∥∥₁_elim past le_prop (λ w. ((at w).proper p e).goal1_in);
    source2_in = ∥∥₁_elim past le_prop (λ w. ((at w).proper p e).source2_in);
    goal2_in = ∥∥₁_elim past le_prop (λ w. ((at w).proper p e).goal2_in);
    apart1 = λ q. ∥∥₁_elim past (λ u v. absurd u) (λ w. ((at w).proper p e).apart1 q);
    apart2 = λ q. ∥∥₁_elim past (λ u v. absurd u) (λ w. ((at w).proper p e).apart2 q);
  };
  standing = λ t e. ∥∥₁_elim past (hlevel props) (λ w. (at w).standing t e);
}
  where
    at : Past s → Sound s
    at p = run_sound sound_opened p.1.1

-- the trial that stands has its link
pub trial_there : (s : State) → ∥ Past s ∥₁ → TrialThere s
trial_there s past t e = ((sound s past).standing t e).0
