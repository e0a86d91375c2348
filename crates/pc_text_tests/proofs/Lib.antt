pub mod LastToken
