pub mod StoreText
