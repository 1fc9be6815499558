-- Every service that is read has its shape.
use Rattle.std.proofs.Common.{◌≡◌, ◌<◌, ◌≤◌, ◌+◌, ◌++◌, ◌∷◌, ◌&&◌, ℕ, ℤ, pos, Bool, true, false, List, [], Option, Some, None, Result, Ok, Err, length, length-append, cond, refl, arith, not, nat_lt, option_map, is_some, IfSome}
use Rattle.std.specs.Int.RustNames.{int_le, unsigned_abs}
use Rattle.std.proofs.lemmas.Int.{ints}
use Rattle.std.proofs.lemmas.Bool.Decides.{nat_tests}
use Rattle.line_file.proofs.OneMoreItem.{each-push, next-push}
use Rattle.line_file.proofs.RowFileLemmas.{counted, passes, read-is}
use Rattle.line_file.specs.OneMoreRow.{service_from-push}
use Rattle.line_file.specs.Rows.{Fields, rows_of}
use Rattle.line_file.specs.ServiceText.{are_seconds, call_from, call_of, checked_call, fault_of, is_in_range, is_service_header, last_call, latest_count, no_call, numbers_of, rises, row_fault, service_from, service_of, whole_fault, with_row}
use Rattle.line_file.specs.Shape.{AreCalls, IsCall, IsService}
use Rattle.line_file.specs.declared.calls.Call.{Call}
use Rattle.line_file.specs.declared.service.Service.{Service}
use Rattle.line_file.specs.declared.service.CallNumbers.{CallNumbers}
use Rattle.line_file.specs.declared.service.CallFault.{CallFault}
use Rattle.line_file.specs.declared.service.CallFault.TheVariants as amiss
use Rattle.line_file.specs.declared.service.ServiceFault.TheVariants as fault

some_seconds : (most : ℕ) (s : Option ℤ) → are_seconds most s ≡ true → IfSome (option_map (λ z. unsigned_abs z) s) (λ t. t ≤ most)
some_seconds most None h = tt
some_seconds most (Some z) h = grind (arith, ints, nat_tests)

all_four : (a b c d : Bool) → (a && b && c && d) ≡ true → (a ≡ true) × (b ≡ true) × (c ≡ true) × (d ≡ true)
all_four true true true true e = (refl, refl, refl, refl)
all_four true true true false e = cc e
all_four true true false d e = cc e
all_four true false c d e = cc e
all_four false b c d e = cc e

call-IsCall : (m : CallNumbers) → is_in_range m ≡ true → IsCall (call_from m)
call-IsCall m h =
    let t = all_four (int_le (pos 0) m.place) (int_le m.place (pos 1000000)) (are_seconds 7200 m.dwell) (are_seconds 172800 m.latest) h in
    let low = t.0 in
    let high = t.1 in
    record { place = grind (arith, ints, nat_tests); dwell = some_seconds 7200 m.dwell t.2; latest = some_seconds 172800 m.latest t.3 }

rises-some : (xs : List Call) (c : Call) → rises xs c ≡ true → 0 < length xs → (last_call xs).place < c.place
rises-some xs c h some = grind (arith, nat_tests)

-- one more call
push-AreCalls : (xs : List Call) (c : Call) → AreCalls xs → IsCall c → rises xs c ≡ true → AreCalls (xs ++ c ∷ [])
push-AreCalls xs c a i f = record {
  each = each-push no_call IsCall xs c a.each i;
  rising = next-push no_call (λ before next. before.place < next.place) xs c a.rising (λ some. rises-some xs c f some);
}

-- what holds of a service after n rows
record IsServiceSoFar (service : Service) (n : ℕ) : Type 0 where
  pub calls : AreCalls service.calls
  pub few : length service.calls ≤ n
  pub within : n ≤ 1000

no_row-IsServiceSoFar : IsServiceSoFar (service_from []) 0
no_row-IsServiceSoFar = record {
  calls = record { each = λ k h. absurd (omega arith); rising = λ k h. absurd (omega arith) };
  few = omega arith;
  within = omega arith;
}

-- a row that is right by itself has numbers that are in their ranges
record IsRead (call : Call) : Type 0 where
  numbers : CallNumbers
  is : call ≡ call_from numbers
  in_range : is_in_range numbers ≡ true

read_call : (numbers : Option CallNumbers) (call : Call) → checked_call numbers ≡ Ok call → IsRead call
read_call None call e = cc e
read_call (Some n) call e = by (is_in_range n) refl
  where
    by : (b : Bool) → is_in_range n ≡ b → IsRead call
    by true t =
        let same : Ok (call_from n) ≡ Ok call = rw t at e in
        record { numbers = n; is = cc same; in_range = t }
    by false t =
        let other : Err amiss.Range ≡ Ok call = rw t at e in
        cc other

row-IsServiceSoFar : (before : List Fields) (r : Fields) → IsServiceSoFar (service_from before) (length before) → row_fault (length before + 1) (service_from before) r ≡ None
    → IsServiceSoFar (service_from (before ++ r ∷ [])) (length before + 1)
row-IsServiceSoFar before r h e = rw (service_from-push before r) (by (call_of r) refl right.1)
  where
    service : Service
    service = service_from before

    n : ℕ
    n = length before + 1

    right : (n ≤ 1000) × (fault_of n service (call_of r) ≡ None)
    right = counted 1000 n r (fault.BadRow n) fault.TooManyRows (fault_of n service (call_of r)) e

    by : (o : Result Call CallFault) → call_of r ≡ o → fault_of n service o ≡ None → IsServiceSoFar (with_row service o) n
    by (Err amiss.Number) is f = cc f
    by (Err amiss.Range) is f = cc f
    by (Ok call) is f =
        let q = read_call (numbers_of r) call is in
        let after = passes (rises service.calls call) (fault.NotRising n) f in
        record {
          calls = push-AreCalls service.calls call h.calls (rw q.is (call-IsCall q.numbers q.in_range)) after;
          few = omega (arith, h.few, length-append service.calls (call ∷ []));
          within = right.0;
        }

all_three : (a b c : Bool) → cond a (Some fault.TooFew) (cond (not b) (Some fault.NoFinalLatest) (cond c (Some fault.TooManyLatest) None)) ≡ None → (a ≡ false) × (b ≡ true) × (c ≡ false)
all_three true b c e = cc e
all_three false false c e = cc e
all_three false true true e = cc e
all_three false true false e = (refl, refl, refl)

-- a service without a fault
whole-IsService : (service : Service) (n : ℕ) → IsServiceSoFar service n → whole_fault service ≡ None → IsService service
whole-IsService service n h e =
    let t = all_three (nat_lt (length service.calls) 2) (is_some (last_call service.calls).latest) (nat_lt 64 (latest_count service.calls)) e in
    let enough = t.0 in
    let not_more = t.2 in
    record {
      calls = h.calls;
      some = grind (arith, nat_tests);
      few = omega (arith, h.few, h.within);
      final = t.1;
      latest = grind (arith, nat_tests);
    }

-- whatever a text says
pub service-IsService : (text : List ℕ) (service : Service) → service_of text ≡ Ok service → IsService service
service-IsService text = read-is service_from row_fault whole_fault IsServiceSoFar IsService no_row-IsServiceSoFar row-IsServiceSoFar whole-IsService is_service_header fault.BadHeader (rows_of text)
