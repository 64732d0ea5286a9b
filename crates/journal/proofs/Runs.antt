-- Writes made one after another.
use Rattle.std.proofs.Common.{◌≡◌, ℕ, suc, ◌+◌, ◌<◌, true, List, [], ◌∷◌, ◌++◌, length, get_or, take, drop, set, map, Ok, Err, sym, refl, ap, ◌∙◌, append_assoc, inl, inr, arith}
use Rattle.std.proofs.Math.Seq.{drop-cons}
use Rattle.std.proofs.lemmas.List.{map-append, map_more, take-append-drop}
use Rattle.std.proofs.lemmas.List.Sums.{fold-append}
use Rattle.std.specs.Result.{is_err}
use Rattle.device.specs.declared.DeviceFault.{DeviceFault}
use Rattle.device.specs.declared.DeviceFault.TheVariants.{NoSuchSlot, NoPower}
use Rattle.device.specs.Effects.{Slot, Slots, State, Answer, Tearing, torn}
use Rattle.device.proofs.Writes.{length_written}
use Rattle.journal.specs.Layout.{shown}
use Rattle.journal.specs.Writes.{Write, clear_writes, place_writes, Within, stood, CutShort, Ran, WritingBelow}

pub stood_append : (s : Slots) (ws vs : List Write) → stood s (ws ++ vs) ≡ stood (stood s ws) vs
stood_append = fold-append (λ s w. set s w.slot w.bytes)

pub length_stood : (s : Slots) (ws : List Write) → length (stood s ws) ≡ length s
length_stood = length_written (λ w. w.slot) (λ w. w.bytes)

Within_at : (n : ℕ) (ws vs : List Write) (w : Write) → Within n (ws ++ (w ∷ vs)) → w.slot < n
Within_at n [] vs w h = h.0
Within_at n (v ∷ ws) vs w h = Within_at n ws vs w h.1

-- the next write fails
cut_short : (s : Slots) (u : State) (front back : List Write) (w : Write) (e : DeviceFault) (t : State) → Within (length s) (front ++ (w ∷ back)) → u.slots ≡ stood s front → u.power ≡ true → Tearing u w.slot w.bytes (Err e) t → Ran s (front ++ (w ∷ back)) (Err e) t
cut_short s u front back w NoSuchSlot t h at o (inl d) =
    let z = Within_at (length s) front back w h in absurd (omega (arith, d.0, ap length at, length_stood s front))
cut_short s u front back w NoPower t h at o (inl d) = absurd cc
cut_short s u front back w e t h at o (inr d) =
    (d.0, record { front = front; cut = w; back = back; are = refl; standing = d.3.0; few = d.3.1; slots = rw (← at) d.3.2 }, d.4)

-- a row that is gone through: at its k-th write
module _ {X : Type 0} (f : X → Write) (s : Slots) (xs : List X) (k : ℕ) (d : X) (u : State) (at : u.slots ≡ stood s (map f (take k xs))) (h : k < length xs) where
  pub stood_more : (t : Slots) → t ≡ set u.slots (f (get_or xs k d)).slot (f (get_or xs k d)).bytes → t ≡ stood s (map f (take (k + 1) xs))
  stood_more t e = rw (map_more f xs k d h, stood_append, e, at)

  around : map f (take k xs) ++ (f (get_or xs k d) ∷ map f (drop (suc k) xs)) ≡ map f xs
  around = sym (map-append f (take k xs) (get_or xs k d ∷ drop (suc k) xs)) ∙ ap (map f) (rw (← drop-cons xs k d h) (take-append-drop k xs))

  pub ran_short : (e : DeviceFault) (t : State) → Within (length s) (map f xs) → u.power ≡ true → Tearing u (f (get_or xs k d)).slot (f (get_or xs k d)).bytes (Err e) t → Ran s (map f xs) (Err e) t
  ran_short e t w o c =
      rw (← around) (cut_short s u _ _ _ e t (rw around w) at o c)

-- the first writes done, and then the others
ran_then : (s : Slots) (ws vs : List Write) (r : Answer) (t : State) → Ran (stood s ws) vs r t → Ran s (ws ++ vs) r t
ran_then s ws vs (Ok _) t d = rw stood_append d
ran_then s ws vs (Err e) t (n, c, q) =
    (n, record { front = ws ++ c.front; cut = c.cut; back = c.back; are = rw (c.are, append_assoc) refl; standing = c.standing; few = c.few; slots = rw stood_append c.slots }, q)

-- a failure among the first
cut_more : (s : Slots) (ws vs : List Write) (t : Slots) → CutShort s ws t → CutShort s (ws ++ vs) t
cut_more s ws vs t c = grind (arith, append_assoc)

-- P holds wherever the writes are cut, and once all of them stand
pub data AtEachCut (P : Slots → Type 0) : Slots → List Write → Type 0 where
  none : {s : Slots} → P s → AtEachCut P s []
  next : {s : Slots} {w : Write} {ws : List Write} → ((m : ℕ) → P (set s w.slot (torn m (get_or s w.slot []) w.bytes))) → AtEachCut P (set s w.slot w.bytes) ws → AtEachCut P s (w ∷ ws)

pub AtEachCut_done : {P : Slots → Type 0} {s : Slots} {ws : List Write} → AtEachCut P s ws → P (stood s ws)
AtEachCut_done (none p) = p
AtEachCut_done (next f h) = AtEachCut_done h

AtEachCut_cut : {P : Slots → Type 0} {s : Slots} (front back : List Write) (w : Write) (m : ℕ) → AtEachCut P s (front ++ (w ∷ back)) → P (set (stood s front) w.slot (torn m (get_or (stood s front) w.slot []) w.bytes))
AtEachCut_cut [] back w m (next f h) = f m
AtEachCut_cut (v ∷ front) back w m (next f h) = AtEachCut_cut front back w m h

pub AtEachCut_short : {P : Slots → Type 0} {s : Slots} {ws : List Write} {t : Slots} → AtEachCut P s ws → CutShort s ws t → P t
AtEachCut_short h c = grind (arith, AtEachCut_cut)

pub AtEachCut_ran : {P : Slots → Type 0} {s : Slots} {ws : List Write} (r : Answer) (t : State) → AtEachCut P s ws → Ran s ws r t → P t.slots
AtEachCut_ran (Ok _) t h d = rw d.0 (AtEachCut_done h)
AtEachCut_ran (Err e) t h d = AtEachCut_short h d.1

pub at_each_cut_append : {P : Slots → Type 0} {s : Slots} (ws vs : List Write) → AtEachCut P s ws → AtEachCut P (stood s ws) vs → AtEachCut P s (ws ++ vs)
at_each_cut_append [] vs a b = b
at_each_cut_append (w ∷ ws) vs (next f a) b = next f (at_each_cut_append ws vs a b)

pub AtEachCut_weaker : {P Q : Slots → Type 0} {s : Slots} {ws : List Write} → ((t : Slots) → P t → Q t) → AtEachCut P s ws → AtEachCut Q s ws
AtEachCut_weaker f (none p) = none (f _ p)
AtEachCut_weaker f (next g h) = next (λ m. f _ (g m)) (AtEachCut_weaker f h)

pub within_append : (n : ℕ) (ws vs : List Write) → Within n ws → Within n vs → Within n (ws ++ vs)
within_append n [] vs a b = b
within_append n (w ∷ ws) vs a b = (a.0, within_append n ws vs a.1 b)

-- clearing, and then placing
pub write_done : (s : State) (i : ℕ) (b : Slot) (r : Answer) (t : State) → i < length (shown s.slots) → s.power ≡ true → Ran (stood s.slots (clear_writes s.slots)) (place_writes i b) r t → WritingBelow s i b r t
write_done s i b (Ok u) t h o d = (h, o, ran_then s.slots (clear_writes s.slots) (place_writes i b) (Ok u) t d)
write_done s i b (Err e) t h o d = inr (h, o, ran_then s.slots (clear_writes s.slots) (place_writes i b) (Err e) t d)

pub write_cut : (s : State) (i : ℕ) (b : Slot) (r : Answer) (t : State) → is_err r ≡ true → i < length (shown s.slots) → s.power ≡ true → Ran s.slots (clear_writes s.slots) r t → WritingBelow s i b r t
write_cut s i b (Ok _) t e h o d = absurd cc
write_cut s i b (Err x) t e h o d = grind (arith, cut_more)

pub ruleset steps = (write_done, write_cut, length_stood)
