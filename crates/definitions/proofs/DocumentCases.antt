-- The (p) cases of 01's 'Sheets to try' in one list, and the theorem that they come out.
-- Made by tools/cases. Above each sheet stands its readable text, and behind `=>` what the schedule program prints for it, or
-- the order program where only the order-only call is tried.
use Rattle.std.specs.Prelude.{false, List, [], ◌∷◌, refl, ℕ}
use Rattle.definitions.specs.Answer.{schedule, order}
use Rattle.definitions.specs.Cases.{Case, ComesOut, AllComeOut, ◌also◌, run, hex, accepts}
use Rattle.definitions.specs.Cases.{refuses, diagnoses}

-- The two words that every sheet has, and nothing else: three zero bytes.
--   => nothing
abbrev no_types : List ℕ
no_types = hex 17 0x10243932b9b7bab931b291cd95b1980000

abbrev no_types-schedule : Case
no_types-schedule = accepts no_types schedule 5 1536 3 0x000000

no_types-schedule-comes-out : ComesOut no_types-schedule
unfolding run
no_types-schedule-comes-out = refl

abbrev no_types-order : Case
no_types-order = accepts no_types order 3 1536 1 0x00

no_types-order-comes-out : ComesOut no_types-order
unfolding run
no_types-order-comes-out = refl

-- Each of two types is the parent of the other.
--     domain a : b
--     domain b : a
--   => refused 8; D 2 b a -; D 2 a b -
abbrev each_other : List ℕ
each_other = hex 28 0x1040b085890e4cae6deeae4c6ca473656c6604000101000100800000

abbrev each_other-schedule : Case
each_other-schedule = diagnoses each_other schedule 2 1536 8 2 false (hex 12 0x0201ff00ffff0200ff01ffff)

each_other-schedule-comes-out : ComesOut each_other-schedule
unfolding run
each_other-schedule-comes-out = refl

abbrev each_other-order : Case
each_other-order = diagnoses each_other order 2 1536 8 2 false (hex 12 0x0201ff00ffff0200ff01ffff)

each_other-order-comes-out : ComesOut each_other-order
unfolding run
each_other-order-comes-out = refl

-- A parent that is not declared, behind one that lists itself.
--     domain a : b zz
--     domain b : b
--   => refused 8; D 3 a zz -; D 2 b b -
abbrev undeclared_parent : List ℕ
undeclared_parent = hex 32 0x1050b085890e4cae6deeae4c6ca473656c6613d3d02000100810000402020000

abbrev undeclared_parent-schedule : Case
undeclared_parent-schedule = diagnoses undeclared_parent schedule 2 1536 8 2 false (hex 12 0x0300ff04ffff0201ff01ffff)

undeclared_parent-schedule-comes-out : ComesOut undeclared_parent-schedule
unfolding run
undeclared_parent-schedule-comes-out = refl

abbrev undeclared_parent-order : Case
undeclared_parent-order = diagnoses undeclared_parent order 2 1536 8 2 false (hex 12 0x0300ff04ffff0201ff01ffff)

undeclared_parent-order-comes-out : ComesOut undeclared_parent-order
unfolding run
undeclared_parent-order-comes-out = refl

-- The parent `self` where no type is ready.
--     domain a : self zz
--   => refused 8; D 3 a self -
abbrev self_alone : List ℕ
self_alone = hex 26 0x1040b0a1c995cdbdd5c98d948e6cad8cc27a7a02000202018000

abbrev self_alone-schedule : Case
self_alone-schedule = diagnoses self_alone schedule 2 1536 8 1 false (hex 6 0x0300ff02ffff)

self_alone-schedule-comes-out : ComesOut self_alone-schedule
unfolding run
self_alone-schedule-comes-out = refl

abbrev self_alone-order : Case
self_alone-order = diagnoses self_alone order 2 1536 8 1 false (hex 6 0x0300ff02ffff)

self_alone-order-comes-out : ComesOut self_alone-order
unfolding run
self_alone-order-comes-out = refl

-- The parent `self` where another type is ready.
--     domain a : self zz
--     domain c
--   => refused 8; D 1 a self -
abbrev self_beside_free : List ℕ
self_beside_free = hex 31 0x1050b0858d0e4cae6deeae4c6ca473656c6613d3d020001018100004000000

abbrev self_beside_free-schedule : Case
self_beside_free-schedule = diagnoses self_beside_free schedule 2 1536 8 1 false (hex 6 0x0100ff03ffff)

self_beside_free-schedule-comes-out : ComesOut self_beside_free-schedule
unfolding run
self_beside_free-schedule-comes-out = refl

abbrev self_beside_free-order : Case
self_beside_free-order = diagnoses self_beside_free order 2 1536 8 1 false (hex 6 0x0100ff03ffff)

self_beside_free-order-comes-out : ComesOut self_beside_free-order
unfolding run
self_beside_free-order-comes-out = refl

-- Two ways up to one associate: one making, under the resources of both parents.
--     domain d : b c
--     domain b : a
--     domain c : a
--     domain a
--       associate file
--     resource file : resource
--     resource resource
--   => T a; T resource; T b; T c; … 9 lines; E d 00 file
abbrev two_ways_up : List ℕ
two_ways_up = hex 54 0x1070b085882c616423334b632a1c995cdbdd5c98d948e6cad8cc180c0402020001008000010040000000024410010820a000a4000000

abbrev two_ways_up-schedule : Case
two_ways_up-schedule = accepts two_ways_up schedule 54 1536 52 0x0c00050080808030004000081208828020001002040a00044140101008020205000220a008100401810380412020441401030080

two_ways_up-schedule-comes-out : ComesOut two_ways_up-schedule
unfolding run
two_ways_up-schedule-comes-out = refl

abbrev two_ways_up-order : Case
two_ways_up-order = accepts two_ways_up order 10 1536 8 0x0c00050080808030

two_ways_up-order-comes-out : ComesOut two_ways_up-order
unfolding run
two_ways_up-order-comes-out = refl

-- A type associates what its parent does: an own and an inherited making, one extension line.
--     domain a
--       associate file
--     domain b : a
--       associate file
--     resource file
--   => T a; T file; T b; R a.file 0 file,resource -; E a 00 file; R b.file 0 file,resource -; R b.file 0 a.file,resource -; E
--      b 00 file
abbrev parent_and_child : List ℕ
parent_and_child = hex 39 0x1050b085888ccd2d8ca87265736f75726365239b2b633030000091020010080048810011000000

abbrev parent_and_child-schedule : Case
parent_and_child-schedule = accepts parent_and_child schedule 35 1536 33 0x06000200800140002090240c010000401010481206000080828000903004040100

parent_and_child-schedule-comes-out : ComesOut parent_and_child-schedule
unfolding run
parent_and_child-schedule-comes-out = refl

abbrev parent_and_child-order : Case
parent_and_child-order = accepts parent_and_child order 7 1536 5 0x0600020080

parent_and_child-order-comes-out : ComesOut parent_and_child-order
unfolding run
parent_and_child-order-comes-out = refl

-- 64 types pass.
--     domain a.a
--     domain a.b
--     domain a.c
--     domain a.d
--     domain a.e
--     domain a.f
--     domain a.g
--     domain a.h
--     domain b.a
--     domain b.b
--     domain b.c
--     domain b.d
--     domain b.e
--     domain b.f
--     domain b.g
--     domain b.h
--     domain c.a
--     domain c.b
--     domain c.c
--     domain c.d
--     domain c.e
--     domain c.f
--     domain c.g
--     domain c.h
--     domain d.a
--     domain d.b
--     domain d.c
--     domain d.d
--     domain d.e
--     domain d.f
--     domain d.g
--     domain d.h
--     domain e.a
--     domain e.b
--     domain e.c
--     domain e.d
--     domain e.e
--     domain e.f
--     domain e.g
--     domain e.h
--     domain f.a
--     domain f.b
--     domain f.c
--     domain f.d
--     domain f.e
--     domain f.f
--     domain f.g
--     domain f.h
--     domain g.a
--     domain g.b
--     domain g.c
--     domain g.d
--     domain g.e
--     domain g.f
--     domain g.g
--     domain g.h
--     domain h.a
--     domain h.b
--     domain h.c
--     domain h.d
--     domain h.e
--     domain h.f
--     domain h.g
--     domain h.h
--   => T a.a; T a.b; T a.c; T a.d; … 59 lines; T h.h
abbrev types64 : List ℕ
types64 = hex 286 0x10a0b085882c61640b285982ce16843932b9b7bab931b291cd95b19a00040000000404000004080000040c0000041000000414000004180000041c00000c0000000c0400000c0800000c0c00000c1000000c1400000c1800000c1c0000140000001404000014080000140c0000141000001414000014180000141c00001c0000001c0400001c0800001c0c00001c1000001c1400001c1800001c1c0000240000002404000024080000240c0000241000002414000024180000241c00002c0000002c0400002c0800002c0c00002c1000002c1400002c1800002c1c0000340000003404000034080000340c0000341000003414000034180000341c00003c0000003c0400003c0800003c0c00003c1000003c1400003c1800003c1c000000

abbrev types64-schedule : Case
types64-schedule = accepts types64 schedule 141 1536 139 0x80010000808040802060104008280418020e0300018080c0806060304018280c18060e05000280814080a0605040282814180a0e0700038081c080e060704038281c180e0e090004808240812060904048282418120e0b00058082c0816060b04058282c18160e0d000680834081a060d040682834181a0e0f00078083c081e060f04078283c181e0e0000

types64-schedule-comes-out : ComesOut types64-schedule
unfolding run
types64-schedule-comes-out = refl

abbrev types64-order : Case
types64-order = accepts types64 order 139 1536 137 0x80010000808040802060104008280418020e0300018080c0806060304018280c18060e05000280814080a0605040282814180a0e0700038081c080e060704038281c180e0e090004808240812060904048282418120e0b00058082c0816060b04058282c18160e0d000680834081a060d040682834181a0e0f00078083c081e060f04078283c181e0e

types64-order-comes-out : ComesOut types64-order
unfolding run
types64-order-comes-out = refl

-- 65 types give 4.
--     domain a.a
--     domain a.b
--     domain a.c
--     domain a.d
--     domain a.e
--     domain a.f
--     domain a.g
--     domain a.h
--     domain b.a
--     domain b.b
--     domain b.c
--     domain b.d
--     domain b.e
--     domain b.f
--     domain b.g
--     domain b.h
--     domain c.a
--     domain c.b
--     domain c.c
--     domain c.d
--     domain c.e
--     domain c.f
--     domain c.g
--     domain c.h
--     domain d.a
--     domain d.b
--     domain d.c
--     domain d.d
--     domain d.e
--     domain d.f
--     domain d.g
--     domain d.h
--     domain e.a
--     domain e.b
--     domain e.c
--     domain e.d
--     domain e.e
--     domain e.f
--     domain e.g
--     domain e.h
--     domain f.a
--     domain f.b
--     domain f.c
--     domain f.d
--     domain f.e
--     domain f.f
--     domain f.g
--     domain f.h
--     domain g.a
--     domain g.b
--     domain g.c
--     domain g.d
--     domain g.e
--     domain g.f
--     domain g.g
--     domain g.h
--     domain h.a
--     domain h.b
--     domain h.c
--     domain h.d
--     domain h.e
--     domain h.f
--     domain h.g
--     domain h.h
--     domain a
--   => refused 4
abbrev types65 : List ℕ
types65 = hex 289 0x10a0b085882c61640b285982ce16843932b9b7bab931b291cd95b19a08040000000404000004080000040c0000041000000414000004180000041c00000c0000000c0400000c0800000c0c00000c1000000c1400000c1800000c1c0000140000001404000014080000140c0000141000001414000014180000141c00001c0000001c0400001c0800001c0c00001c1000001c1400001c1800001c1c0000240000002404000024080000240c0000241000002414000024180000241c00002c0000002c0400002c0800002c0c00002c1000002c1400002c1800002c1c0000340000003404000034080000340c0000341000003414000034180000341c00003c0000003c0400003c0800003c0c00003c1000003c1400003c1800003c1c000000000000

abbrev types65-schedule : Case
types65-schedule = refuses types65 schedule 2 1536 4

types65-schedule-comes-out : ComesOut types65-schedule
unfolding run
types65-schedule-comes-out = refl

abbrev types65-order : Case
types65-order = refuses types65 order 2 1536 4

types65-order-comes-out : ComesOut types65-order
unfolding run
types65-order-comes-out = refl

-- 8 parents pass.
--     domain p
--     domain a : p p p p p p p p
--   => T p; T a
abbrev parents8 : List ℕ
parents8 = hex 35 0x1040b085c10e4cae6deeae4c6ca473656c660402000000080100804020100804020000

abbrev parents8-schedule : Case
parents8-schedule = accepts parents8 schedule 8 1536 6 0x040200000000

parents8-schedule-comes-out : ComesOut parents8-schedule
unfolding run
parents8-schedule-comes-out = refl

abbrev parents8-order : Case
parents8-order = accepts parents8 order 6 1536 4 0x04020000

parents8-order-comes-out : ComesOut parents8-order
unfolding run
parents8-order-comes-out = refl

-- 9 parents give 4.
--     domain p
--     domain a : p p p p p p p p p
--   => refused 4
abbrev parents9 : List ℕ
parents9 = hex 36 0x1040b085c10e4cae6deeae4c6ca473656c66040200000009010080402010080402010000

abbrev parents9-schedule : Case
parents9-schedule = refuses parents9 schedule 2 1536 4

parents9-schedule-comes-out : ComesOut parents9-schedule
unfolding run
parents9-schedule-comes-out = refl

abbrev parents9-order : Case
parents9-order = refuses parents9 order 2 1536 4

parents9-order-comes-out : ComesOut parents9-order
unfolding run
parents9-order-comes-out = refl

-- A NestAssociate makes a resource for the child, and none for its own type.
--     domain p
--       nest p.file
--     domain b : p
--     resource p.file
--   => T p; T p.file; T b; R b.file 0 p.file,resource -; E b 00 file
abbrev nested : List ℕ
nested = hex 39 0x1050b11199a5b1942e087265736f75726365239b2b6330302000a1018100000810001405000000

abbrev nested-schedule : Case
nested-schedule = accepts nested schedule 20 1536 18 0x06040280800000800010a020140c01000020

nested-schedule-comes-out : ComesOut nested-schedule
unfolding run
nested-schedule-comes-out = refl

abbrev nested-order : Case
nested-order = accepts nested order 8 1536 6 0x060402808000

nested-order-comes-out : ComesOut nested-order
unfolding run
nested-order-comes-out = refl

-- The worked example of the schedule program.
--     domain base
--       associate file
--     resource file virtual : resource
--       mark makelist
--     resource resource
--   => T base; T resource; T file; R base.file 0 file,resource makelist; E base 00 file
abbrev worked : List ℕ
worked = hex 38 0x10423130b9b29199a5b1950e4cae6deeae4c6ca473656c660600001220200261020101100000

abbrev worked-schedule : Case
worked-schedule = accepts worked schedule 18 1536 16 0x06000200800080001090140802800010

worked-schedule-comes-out : ComesOut worked-schedule
unfolding run
worked-schedule-comes-out = refl

abbrev worked-order : Case
worked-order = accepts worked order 7 1536 5 0x0600020080

worked-order-comes-out : ComesOut worked-order
unfolding run
worked-order-comes-out = refl

abbrev pub cases : List Case
cases =
    no_types-schedule ∷ no_types-order ∷ each_other-schedule ∷ each_other-order ∷ undeclared_parent-schedule ∷
    undeclared_parent-order ∷ self_alone-schedule ∷ self_alone-order ∷ self_beside_free-schedule ∷ self_beside_free-order ∷
    two_ways_up-schedule ∷ two_ways_up-order ∷ parent_and_child-schedule ∷ parent_and_child-order ∷ types64-schedule ∷ types64-order ∷
    types65-schedule ∷ types65-order ∷ parents8-schedule ∷ parents8-order ∷ parents9-schedule ∷ parents9-order ∷
    nested-schedule ∷ nested-order ∷ worked-schedule ∷ worked-order ∷ []

pub hold : AllComeOut cases
hold =
    no_types-schedule-comes-out also no_types-order-comes-out also each_other-schedule-comes-out also each_other-order-comes-out
    also undeclared_parent-schedule-comes-out also undeclared_parent-order-comes-out also self_alone-schedule-comes-out also
    self_alone-order-comes-out also self_beside_free-schedule-comes-out also self_beside_free-order-comes-out also
    two_ways_up-schedule-comes-out also two_ways_up-order-comes-out also parent_and_child-schedule-comes-out also
    parent_and_child-order-comes-out also types64-schedule-comes-out also types64-order-comes-out also
    types65-schedule-comes-out also types65-order-comes-out also parents8-schedule-comes-out also parents8-order-comes-out
    also parents9-schedule-comes-out also parents9-order-comes-out also nested-schedule-comes-out also nested-order-comes-out
    also worked-schedule-comes-out also worked-order-comes-out also tt
