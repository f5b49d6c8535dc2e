-- A relay between two threads: what was taken, and then the parcels that are held, is what was sent, and that follows a
-- plan, if there is one.
use Rattle.std.specs.List.{filter_map}
use Rattle.std.specs.Prelude.{◌≡◌, ℕ, ◌+◌, Bool, true, false, List, [], ◌∷◌, ◌++◌, map, Option, Some, None}
use mathlib.Core.Option.{some}
use lib.ListN.{get_elem?}
use Rattle.atomic_table.specs.Seated.{TableId}
use Rattle.atomic_table.specs.declared.badge.Badge.{Badge}
use Rattle.crossbeam_channel.specs.declared.flavors.array.Key.{Key}
use Rattle.crossbeam_channel.specs.Claims.{Pass}
use Rattle.lsp_relay.specs.declared.ends.Parcel.{Parcel}
use Rattle.lsp_relay.specs.declared.ends.Parcel.TheVariants as parcel
use Rattle.lsp_relay.specs.declared.ends.Taken as front
use Rattle.lsp_relay.specs.declared.ends.Taken.TheVariants as taken
use Rattle.lsp_relay.specs.declared.account.Account.{Account}

-- what a relay's plan is made of: bytes, if they are known, and two bounds, the first if there is one
abbrev pub Source : Type 0
Source = Option (List ℕ) × (Option ℕ × ℕ)

-- which relay an end belongs to
abbrev pub Relay : Type 0 → Type 0
Relay M = TableId × Badge (Key (Option (Parcel M)))

module _ {M : Type 0} where
  -- These parcels may be sent, by a plan. Of a relay without one nothing is said.
  abbrev pub Follows : (Source → List (Parcel M) → Type 0) → Option Source → List (Parcel M)
      → Type 0
  Follows may_send source parcels = (known : Source) → source ≡ Some known
      → may_send known parcels

  abbrev pub sender_account : List (Parcel M) → Bool → Option Source → Account M
  sender_account sent wakeable source =
      record {
        sends = true;
        takes = false;
        may_wake = false;
        sent = sent;
        taken = [];
        wakes =
            0;
        wakeable = wakeable;
        source = source;
      }

  abbrev pub receiver_account : List (Parcel M) → ℕ → Bool → Option Source → Account M
  receiver_account taken wakes wakeable source =
      record {
        sends = false;
        takes = true;
        may_wake = false;
        sent = [];
        taken = taken;
        wakes =
            wakes;
        wakeable = wakeable;
        source = source;
      }

  abbrev pub both_account : List (Parcel M) → List (Parcel M) → ℕ → Bool → Option Source → Account M
  both_account sent taken wakes wakeable source =
      record {
        sends = true;
        takes = true;
        may_wake = false;
        sent = sent;
        taken = taken;
        wakes =
            wakes;
        wakeable = wakeable;
        source = source;
      }

  abbrev pub waker_account : ℕ → Account M
  waker_account given =
      record {
        sends = false;
        takes = false;
        may_wake = true;
        sent = [];
        taken = [];
        wakes =
            given;
        wakeable = false;
        source = None;
      }

  abbrev pub no_account : Account M
  no_account = record {
    sends = false;
    takes = false;
    may_wake = false;
    sent = [];
    taken =
        [];
    wakes = 0;
    wakeable = false;
    source = None;
  }

  -- the parcels among what a channel holds: the others are wakes
  abbrev pub parcels_of : List (Option (Parcel M)) → List (Parcel M)
  parcels_of held = filter_map (λ (item : Option (Parcel M)). item) held

  -- a send tells that the parcel joined what was sent
  abbrev pub sends_one : Account M → Option (Parcel M) → Account M → Type 0
  sends_one before item after =
      after ≡ record before { sent = before.sent ++ parcels_of (item ∷ []) }

  -- a wake that is sent is counted
  abbrev pub gives_wake : Account M → Option (Parcel M) → Account M → Type 0
  gives_wake before item after = after ≡ record before { wakes = before.wakes + 1 }

  -- one wake more, if this is one
  abbrev pub wakes_with : Option (Parcel M) → ℕ → ℕ
  wakes_with None count = count + 1
  wakes_with (Some parcel) count = count

  -- Of a relay with a plan: these parcels were taken, which follow it, and so many wakes, of wakers that were made
  -- before.
  abbrev pub IsLearned : (Source → List (Parcel M) → Type 0) → Option Source → Bool
      → List (Parcel M) → ℕ → Type 0
  IsLearned may_send source wakeable taken wakes = Follows may_send source taken
      × ((known : Source) → source ≡ Some known → wakeable ≡ false → wakes ≡ 0)

  -- a take tells that the parcel joined what was taken, or that a wake was taken
  abbrev pub takes_one : (Source → List (Parcel M) → Type 0) → Account M → Option (Parcel M)
      → Account M → Type 0
  takes_one may_send before item after =
      (after ≡ record before {
        taken = before.taken ++ parcels_of (item ∷ []);
        wakes =
            wakes_with item before.wakes;
      })
      × IsLearned may_send after.source after.wakeable after.taken after.wakes

  -- what a take found, and what was taken before and after it: a parcel joined that, a wake did not
  abbrev pub TakenIs : front.Taken M → List (Parcel M) → List (Parcel M) → Type 0
  TakenIs (taken.Parcel x) old new = new ≡ old ++ x ∷ []
  TakenIs found old new = new ≡ old

  -- how many wakes were taken, if so many were before this was found
  abbrev pub wakes_after : front.Taken M → ℕ → ℕ
  wakes_after taken.Wake count = count + 1
  wakes_after found count = count

  -- no wake is among what a channel holds
  abbrev pub HoldsNoWake : List (Option (Parcel M)) → Type 0
  HoldsNoWake [] = Unit {0}
  HoldsNoWake (None ∷ rest) = ⊥
  HoldsNoWake (Some parcel ∷ rest) = HoldsNoWake rest

  -- One pass at most may send, and its account has what was sent, and whether a waker was made; the same for takes, and
  -- how many wakes were taken. Both have the plan, and if there is one, both have whether a waker was made. A pass may
  -- wake only if a waker was made.
  abbrev pub Agrees : ℕ → ℕ → List (Parcel M) → List (Parcel M) → ℕ → Bool → Option Source → ℕ
      → Account M → Type 0
  Agrees sender receiver sent taken wakes wakeable source pass account =
      (account.sends ≡ true → (pass ≡ sender) × (account.sent ≡ sent)
      × (account.wakeable ≡ wakeable) × (account.source ≡ source))
      × (account.takes ≡ true → (pass ≡ receiver) × (account.taken ≡ taken)
      × (account.wakes ≡ wakes) × (account.source ≡ source)
      × ((known : Source) → account.source ≡ Some known → account.wakeable ≡ wakeable))
      × (account.may_wake ≡ true → wakeable ≡ true)

  -- The rule of a relay: what was taken, and then the parcels that are held, is what was sent. If no waker was made, no
  -- wake is held, and none was taken.
  pub record TakenThenHeldIsSent (may_send : Source → List (Parcel M) → Type 0) (held : List (Option (Parcel M)))
      (accounts : List (Account M)) :
      Type 0 where
    pub sender : ℕ
    pub receiver : ℕ
    pub sent : List (Parcel M)
    pub taken : List (Parcel M)
    pub wakes : ℕ
    pub wakeable : Bool
    pub source : Option Source
    pub kept : (before after : List (Parcel M)) → sent ≡ before ++ after
        → Follows may_send source before
    pub whole : sent ≡ taken ++ parcels_of held
    pub unwoken : wakeable ≡ false → (wakes ≡ 0) × HoldsNoWake held
    pub agree : (pass : ℕ) (account : Account M) → get_elem? accounts pass ≡ some account
        → Agrees sender receiver sent taken wakes wakeable source pass account

  -- no End was sent
  abbrev pub IsOpen : List (Parcel M) → Type 0
  IsOpen [] = Unit {0}
  IsOpen (parcel.Message m ∷ rest) = IsOpen rest
  IsOpen (parcel.End ∷ rest) = ⊥

  -- there is at most one End, in the last place
  abbrev pub EndsAtMostOnce : List (Parcel M) → Type 0
  EndsAtMostOnce [] = Unit {0}
  EndsAtMostOnce (parcel.Message m ∷ rest) = EndsAtMostOnce rest
  EndsAtMostOnce (parcel.End ∷ rest) = rest ≡ []

  -- the messages as parcels, and then End
  abbrev pub ended : List M → List (Parcel M)
  ended xs = map parcel.Message xs ++ parcel.End ∷ []

  -- End is among the parcels
  abbrev pub has_end : List (Parcel M) → Bool
  has_end [] = false
  has_end (parcel.Message x ∷ rest) = has_end rest
  has_end (parcel.End ∷ rest) = true

  -- what a pass knows
  abbrev pub account_of : Pass (Option (Parcel M)) (Account M) → Account M
  account_of pass = pass.me.0.client

  abbrev pub relay_of : Pass (Option (Parcel M)) (Account M) → Relay M
  relay_of pass = (pass.table_id, pass.me.0.of)

-- the sender's end, as callers see it: also, whether a waker was ever made, and what its plan is made of
pub record Sending (M : Type 0) : Type 0 where
  pub relay : Relay M
  pub sent : List (Parcel M)
  pub wakeable : Bool
  pub source : Option Source

-- The receiver's end, as callers see it. If there is a plan, it also knows whether a waker was made before.
pub record Taking (M : Type 0) : Type 0 where
  pub relay : Relay M
  pub taken : List (Parcel M)
  pub wakes : ℕ
  pub wakeable : Bool
  pub source : Option Source

-- a waker, as callers see it
pub record Waking (M : Type 0) : Type 0 where
  pub relay : Relay M
  pub given : ℕ
