-- What a view stands for, when a process goes, goes on as another, or comes.
use Rattle.std.proofs.Common.{ℕ, ◌<◌, ◌≡◌, ◌≢◌, Bool, true, false, not, ◌&&◌, ◌||◌, [], ◌∷◌, ◌++◌, map, filter, length, refl, sym, ap, ◌∙◌, Some, arith, append-nil, length-set, length-append}
use Rattle.std.proofs.lemmas.Bool.Decides.{nat_tests}
use Rattle.std.specs.List.{slice_get, slice_set}
use Rattle.pict_core.specs.Term.{Val, Process, Chan, Out, In}
use Rattle.pict_core.specs.Configuration.{Ready, Parked, Entry, Configuration, StampsRise}
use Rattle.pict_core.specs.Step.{gone, kept, added, with_channel, is_ready, is_channel, reads, sends}
use Rattle.pict_core.proofs.Entries.{parked_is}
use Rattle.pict_core.proofs.Placing.{found}
use Rattle.pict_view.specs.View.{View, StandsFor, processes, is_parked_at, list_at}
use Rattle.pict_view.specs.Placed.{without, instead}
use Rattle.pict_view.proofs.Lists.{map_without, map_instead, each_list, list_new}
use Rattle.pict_view.proofs.Entries.{place_gone, other_gone, place_kept, parked_kept, processes_push}

-- ---- what waits at one channel waits at no other

or_false : (b : Bool) → b || false ≡ b
or_false true = refl
or_false false = refl

other_channel : (c d : ℕ) (chan : Val) → d ≢ c → is_channel c chan ≡ true → is_channel d chan ≡ false
other_channel c d (Chan number) n h = grind (arith, nat_tests)
other_channel c d _ n h = refl

elsewhere : (c d : ℕ) (p : Process) → d ≢ c → reads c p || sends c p ≡ true → reads d p || sends d p ≡ false
elsewhere c d (In chan replicated pattern body) n h = or_false (is_channel d chan) ∙ other_channel c d chan n (sym (or_false (is_channel c chan)) ∙ h)
elsewhere c d (Out chan message at) n h = other_channel c d chan n h
elsewhere c d _ n h = refl

parked_elsewhere : (c d : ℕ) (e : Entry) → d ≢ c → is_parked_at c e ≡ true → is_parked_at d e ≡ false
parked_elsewhere c d e n h = go (is_ready e) h
  where
    go : (b : Bool) → (not b && reads c e.process) || (not b && sends c e.process) ≡ true → (not b && reads d e.process) || (not b && sends d e.process) ≡ false
    go true k = refl
    go false k = elsewhere c d e.process n k

ready_not_parked : (c : ℕ) (e : Entry) → is_ready e ≡ true → is_parked_at c e ≡ false
ready_not_parked c e h = ap (λ b. (not b && reads c e.process) || (not b && sends c e.process)) h

-- ---- one that is ready

module _ (C : Configuration) (v : View) (s : StandsFor v C) (rise : StampsRise 0 C.entries C.next_stamp) where
  module _ (i : ℕ) (t : Entry) (e : slice_get (filter is_ready C.entries) i ≡ Some t) where
    pub gone_ready : StandsFor (record { ready = without i v.ready; channels = v.channels }) (gone t.stamp C)
    gone_ready = let f = found is_ready 0 C.entries C.next_stamp i t rise e in record {
      channels = s.channels;
      ready = ap (map (λ (x : Entry). x.process)) (place_gone is_ready 0 C.entries C.next_stamp i t rise e)
          ∙ map_without (λ (x : Entry). x.process) i (filter is_ready C.entries) ∙ ap (without i) s.ready;
      parked = λ c. ap (map (λ (x : Entry). x.process)) (other_gone (is_parked_at c) 0 C.entries C.next_stamp t rise f.1 (ready_not_parked c t f.0)) ∙ s.parked c;
    }

    -- what waits is as before
    pub parked_still : (c : ℕ) → filter (is_parked_at c) (gone t.stamp C).entries ≡ filter (is_parked_at c) C.entries
    parked_still c = let f = found is_ready 0 C.entries C.next_stamp i t rise e in other_gone (is_parked_at c) 0 C.entries C.next_stamp t rise f.1 (ready_not_parked c t f.0)

    pub kept_ready : (x : Process) → StandsFor (record { ready = instead i x v.ready; channels = v.channels }) (kept t.stamp x C)
    kept_ready x = let f = found is_ready 0 C.entries C.next_stamp i t rise e in record {
      channels = s.channels;
      ready = ap (map (λ (y : Entry). y.process)) (place_kept is_ready x 0 C.entries C.next_stamp i t rise e f.0)
          ∙ map_instead (λ (y : Entry). y.process) i (record t { process = x }) (filter is_ready C.entries) ∙ ap (instead i x) s.ready;
      parked = λ c. ap (map (λ (y : Entry). y.process)) (parked_kept (is_parked_at c) x 0 C.entries C.next_stamp t (ready_not_parked c) f.0 rise f.1) ∙ s.parked c;
    }

  -- the j-th that waits at a channel goes
  pub gone_parked : (c j : ℕ) (u : Entry) → slice_get (filter (is_parked_at c) C.entries) j ≡ Some u → c < length v.channels
      → StandsFor (record { ready = v.ready; channels = slice_set v.channels c (without j (list_at c v.channels)) }) (gone u.stamp C)
  gone_parked c j u e h = let f = found (is_parked_at c) 0 C.entries C.next_stamp j u rise e in record {
    channels = length-set v.channels c (without j (list_at c v.channels)) ∙ s.channels;
    ready = ap (map (λ (x : Entry). x.process)) (other_gone is_ready 0 C.entries C.next_stamp u rise f.1 (parked_is (is_parked_at c) u (ready_not_parked c) f.0)) ∙ s.ready;
    parked = each_list (λ d l. processes (is_parked_at d) (gone u.stamp C).entries ≡ l) v.channels c (without j (list_at c v.channels)) h
        (ap (map (λ (x : Entry). x.process)) (place_gone (is_parked_at c) 0 C.entries C.next_stamp j u rise e)
        ∙ map_without (λ (x : Entry). x.process) j (filter (is_parked_at c) C.entries) ∙ ap (without j) (s.parked c))
        (λ d n. ap (map (λ (x : Entry). x.process)) (other_gone (is_parked_at d) 0 C.entries C.next_stamp u rise f.1 (parked_elsewhere c d u n f.0)) ∙ s.parked d);
  }

-- ---- one comes, and a channel

module _ (C : Configuration) (v : View) (s : StandsFor v C) where
  pub added_ready : (x : Process) → StandsFor (record { ready = v.ready ++ x ∷ []; channels = v.channels }) (added Ready x C)
  added_ready x = record {
    channels = s.channels;
    ready = processes_push is_ready C.entries _ true refl ∙ ap (λ l. l ++ x ∷ []) s.ready;
    parked = λ c. processes_push (is_parked_at c) C.entries _ false refl ∙ append-nil _ ∙ s.parked c;
  }

  pub added_parked : (c : ℕ) (x : Process) → reads c x || sends c x ≡ true → c < length v.channels
      → StandsFor (record { ready = v.ready; channels = slice_set v.channels c (list_at c v.channels ++ x ∷ []) }) (added Parked x C)
  added_parked c x at h = record {
    channels = length-set v.channels c (list_at c v.channels ++ x ∷ []) ∙ s.channels;
    ready = processes_push is_ready C.entries _ false refl ∙ append-nil _ ∙ s.ready;
    parked = each_list (λ d l. processes (is_parked_at d) (added Parked x C).entries ≡ l) v.channels c (list_at c v.channels ++ x ∷ []) h
        (processes_push (is_parked_at c) C.entries _ true at ∙ ap (λ l. l ++ x ∷ []) (s.parked c))
        (λ d n. processes_push (is_parked_at d) C.entries _ false (elsewhere c d x n at) ∙ append-nil _ ∙ s.parked d);
  }

  pub one_more : StandsFor (record { ready = v.ready; channels = v.channels ++ [] ∷ [] }) (with_channel C)
  one_more = record {
    channels = omega (arith, length-append v.channels ([] ∷ []), s.channels);
    ready = s.ready;
    parked = λ c. s.parked c ∙ sym (list_new v.channels c);
  }
