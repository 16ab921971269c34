-- How the lines of a run follow one another.
use Rattle.std.proofs.Common.{◌≡◌, ℕ, ◌+◌, ◌*◌, ◌≤◌, List, [], ◌∷◌, ◌++◌, length, drop, Ok, Err, Result, sym, refl, ap, ◌∙◌, subst, arith}
use Rattle.std.specs.List.{flat_map}
use Rattle.std.proofs.lemmas.List.{flat_map_more, length_push}
use Rattle.book.specs.History.{State}
use Rattle.orders.specs.declared.kind.Kind.{Kind}
use Rattle.orders.specs.declared.line.Line.{Line}
use Rattle.orders.specs.declared.order.Order.{Order}
use Rattle.orders.specs.Lines.{ended}
use Rattle.orders.specs.Meanings.{order, ordered}
use Rattle.orders.specs.Records.{Stop, Item, bytes, read, taken, orders, ReadUpTo}
use Rattle.orders.specs.Runs.{Carried, Tells, Ran, last_line}
use Rattle.orders.specs.Runs.Tells.{none, next}
use Rattle.orders.proofs.ReadOrders.{ordered_item, ordered_stop}
use Rattle.orders.proofs.ReadAll.{joined_long, read_none, read_more, read_stopped, orders_apart}

-- The records before a place have been carried out in turn, and the text is their lines.
pub record ToldSoFar (s : State) (file : List ℕ) (place count : ℕ) (text : List ℕ) (t : State) : Type 0 where
  pub items : List (Item Kind)
  pub read_to : ReadUpTo orders file items place
  pub counts : count ≡ length items
  pub told : List Line
  pub tells : Tells s items told t
  pub text_is : text ≡ flat_map ended told

-- Before the first byte nothing has been told.
pub told_none : (s : State) (file : List ℕ) (place : ℕ) (text : List ℕ) → place ≡ 0 → text ≡ [] → ToldSoFar s file place 0 text s
told_none s file place text at_start empty =
    record {
      items = [];
      read_to = subst (ReadUpTo orders file []) (sym at_start) (read_none orders file);
      counts = refl;
      told = [];
      tells = none;
      text_is = empty;
    }

-- A record takes at least its mark.
pub taken_some : (r : Result (Item Kind) Stop) (o : Order) → Ok o ≡ ordered r → 2 ≤ taken r
taken_some (Ok i) o e = omega arith
taken_some (Err stop) o e = let z : ◌≡◌ {A = ℕ} 0 1 = cc in absurd (omega arith)

-- Where reading stops, nothing is taken.
pub taken_none : (r : Result (Item Kind) Stop) (stop : Stop) → Err stop ≡ ordered r → taken r ≡ 0
taken_none (Ok i) stop e = let z : ◌≡◌ {A = ℕ} 0 1 = cc in absurd (omega arith)
taken_none (Err other) stop e = refl

module _ (s : State) (file : List ℕ) {place count : ℕ} {text : List ℕ} {t : State} (so : ToldSoFar s file place count text t) {other : List ℕ} (same : other ≡ file) where
  -- There are at most half as many records as bytes.
  pub counted : place ≤ length other → 2 * count ≤ length file
  counted within = omega (arith, joined_long so.items, so.read_to.long, so.counts, ap length same)

  -- One order more.
  pub told_more : {after : ℕ} {text' : List ℕ} (u : State) (line : Line) (o : Order) → Ok o ≡ ordered (read orders (drop place other)) → after ≡ place + taken (read orders (drop place other)) → Carried (count + 1) place t o line u → text' ≡ text ++ ended line → ToldSoFar s file after (count + 1) text' u
  told_more u line o got to carried wrote =
      let w = ordered_item (read orders (drop place other)) o got in
      let i = w.0 in
      let long = to ∙ ap (λ (r : Result (Item Kind) Stop). place + taken r) (sym w.1) in
      record {
        items = so.items ++ i ∷ [];
        read_to = read_more orders file so.read_to same w.1 long;
        counts = omega (arith, so.counts, length_push so.items i);
        told = so.told ++ line ∷ [];
        tells = next i line so.tells (subst (λ (at : ℕ). Carried (length so.items + 1) at t (order i) line u) so.read_to.long (subst (λ (n : ℕ). Carried (n + 1) place t (order i) line u) so.counts (subst (λ (x : Order). Carried (count + 1) place t x line u) w.2 carried)));
        text_is = wrote ∙ ap (λ (bs : List ℕ). bs ++ ended line) so.text_is ∙ flat_map_more ended [] so.told line;
      }

  -- Reading stops, and the last line is told.
  pub told_all : (text' : List ℕ) (stop : Stop) → Err stop ≡ ordered (read orders (drop place other)) → text' ≡ text ++ ended (last_line count place stop) → Ran s file text' t
  told_all text' stop got wrote =
      record {
        items = so.items;
        stop = stop;
        read = read_stopped orders file orders_apart so.read_to same (ordered_stop _ stop got);
        told = so.told;
        tells = so.tells;
        text_is =
            wrote
            ∙ ap (λ (n : ℕ). text ++ ended (last_line n place stop)) so.counts
            ∙ ap (λ (at : ℕ). text ++ ended (last_line (length so.items) at stop)) so.read_to.long
            ∙ ap (λ (bs : List ℕ). bs ++ ended (last_line (length so.items) (length (flat_map bytes so.items)) stop)) so.text_is
            ∙ flat_map_more ended [] so.told (last_line (length so.items) (length (flat_map bytes so.items)) stop);
      }
