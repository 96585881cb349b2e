-- Laws of pictures arranged anew.
--     Facing    places counted from either end
--     Screens   pictures that show the same, and pictures stored row by row
--     Views     small pictures under each move, computed; every move is one of eight views, and two views in a row are one
--     Table     two moves in a row are the one that the table names, and every move is undone by one
--     Places    a moved picture is the picture read through a bijection of its places
--     Patches   a picture that is written patch by patch
pub mod Facing
pub mod Screens
pub mod Views
pub mod Table
pub mod Places
pub mod Patches
